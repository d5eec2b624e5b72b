-- The names in a state machine, a component, an interface, an instance or a topology that is a member of a file.
use Rattle.std.proofs.Common.{◌≡◌, ℕ, List, [], sym, ap, ◌∙◌}
use Rattle.fp_tree.specs.declared.name.Name.{Name}
use Rattle.fp_tree.specs.declared.machine.Machine.{Machine}
use Rattle.fp_tree.specs.declared.component.Component.{Component}
use Rattle.fp_tree.specs.declared.component.Interface.{Interface}
use Rattle.fp_tree.specs.declared.instance.Instance.{Instance}
use Rattle.fp_tree.specs.declared.topology.Topology.{Topology}
use Rattle.fp_tree.specs.declared.member.Include.{Include as Included}
use Rattle.fp_tree.specs.declared.member.Member.{fold-roll-Member}
use Rattle.fp_tree.specs.declared.member.Member.TheOpen as member
use Rattle.fp_tree.specs.declared.member.Member.TheVariants as node
use Rattle.fp_parse_parts.specs.declared.bare.ModelMember.{ModelMember}
use Rattle.fp_parse_parts.specs.declared.bare.ModelMember.TheVariants as model
use Rattle.fp_parse_parts.specs.Members.{noted_model}
use Rattle.fp_places.specs.Depths.{modules_of_member, modules_of_module, modules_within}
use Rattle.fp_places.specs.Includes.{includes_of_member, includes_of_module, includes_within}
use Rattle.fp_places.specs.Machines.{names_in_machine}
use Rattle.fp_places.specs.Components.{names_in_component, names_in_interface}
use Rattle.fp_places.specs.Topologies.{names_in_instance, names_in_topology}
use Rattle.fp_places.specs.Names.{names_of_member, names_of_module, names_within}

-- no include of a file stands in them, nor a module
machine_includes : (x : Machine) → includes_within (node.Machine x) ≡ []
machine_includes x = ap includes_within (sym (node.rolls-Machine x)) ∙ fold-roll-Member (List Included) (List Included) includes_of_member includes_of_module (member.Machine x)

pub machine_names : (x : Machine) → names_within (node.Machine x) ≡ names_in_machine x
machine_names x = ap names_within (sym (node.rolls-Machine x)) ∙ fold-roll-Member (List Name) (List Name) names_of_member names_of_module (member.Machine x)

machine_depth : (x : Machine) → modules_within (node.Machine x) ≡ 0
machine_depth x = ap modules_within (sym (node.rolls-Machine x)) ∙ fold-roll-Member ℕ ℕ modules_of_member modules_of_module (member.Machine x)

component_includes : (x : Component) → includes_within (node.Component x) ≡ []
component_includes x = ap includes_within (sym (node.rolls-Component x)) ∙ fold-roll-Member (List Included) (List Included) includes_of_member includes_of_module (member.Component x)

pub component_names : (x : Component) → names_within (node.Component x) ≡ names_in_component x
component_names x = ap names_within (sym (node.rolls-Component x)) ∙ fold-roll-Member (List Name) (List Name) names_of_member names_of_module (member.Component x)

component_depth : (x : Component) → modules_within (node.Component x) ≡ 0
component_depth x = ap modules_within (sym (node.rolls-Component x)) ∙ fold-roll-Member ℕ ℕ modules_of_member modules_of_module (member.Component x)

interface_includes : (x : Interface) → includes_within (node.Interface x) ≡ []
interface_includes x = ap includes_within (sym (node.rolls-Interface x)) ∙ fold-roll-Member (List Included) (List Included) includes_of_member includes_of_module (member.Interface x)

pub interface_names : (x : Interface) → names_within (node.Interface x) ≡ names_in_interface x
interface_names x = ap names_within (sym (node.rolls-Interface x)) ∙ fold-roll-Member (List Name) (List Name) names_of_member names_of_module (member.Interface x)

interface_depth : (x : Interface) → modules_within (node.Interface x) ≡ 0
interface_depth x = ap modules_within (sym (node.rolls-Interface x)) ∙ fold-roll-Member ℕ ℕ modules_of_member modules_of_module (member.Interface x)

instance_includes : (x : Instance) → includes_within (node.Instance x) ≡ []
instance_includes x = ap includes_within (sym (node.rolls-Instance x)) ∙ fold-roll-Member (List Included) (List Included) includes_of_member includes_of_module (member.Instance x)

pub instance_names : (x : Instance) → names_within (node.Instance x) ≡ names_in_instance x
instance_names x = ap names_within (sym (node.rolls-Instance x)) ∙ fold-roll-Member (List Name) (List Name) names_of_member names_of_module (member.Instance x)

instance_depth : (x : Instance) → modules_within (node.Instance x) ≡ 0
instance_depth x = ap modules_within (sym (node.rolls-Instance x)) ∙ fold-roll-Member ℕ ℕ modules_of_member modules_of_module (member.Instance x)

topology_includes : (x : Topology) → includes_within (node.Topology x) ≡ []
topology_includes x = ap includes_within (sym (node.rolls-Topology x)) ∙ fold-roll-Member (List Included) (List Included) includes_of_member includes_of_module (member.Topology x)

pub topology_names : (x : Topology) → names_within (node.Topology x) ≡ names_in_topology x
topology_names x = ap names_within (sym (node.rolls-Topology x)) ∙ fold-roll-Member (List Name) (List Name) names_of_member names_of_module (member.Topology x)

topology_depth : (x : Topology) → modules_within (node.Topology x) ≡ 0
topology_depth x = ap modules_within (sym (node.rolls-Topology x)) ∙ fold-roll-Member ℕ ℕ modules_of_member modules_of_module (member.Topology x)

pub model_includes : (m : ModelMember) (note : List ℕ) → includes_within (noted_model m note) ≡ []
model_includes (model.Machine x) note = machine_includes _
model_includes (model.Component x) note = component_includes _
model_includes (model.Interface x) note = interface_includes _
model_includes (model.Instance x) note = instance_includes _
model_includes (model.Topology x) note = topology_includes _

pub model_depth : (m : ModelMember) (note : List ℕ) → modules_within (noted_model m note) ≡ 0
model_depth (model.Machine x) note = machine_depth _
model_depth (model.Component x) note = component_depth _
model_depth (model.Interface x) note = interface_depth _
model_depth (model.Instance x) note = instance_depth _
model_depth (model.Topology x) note = topology_depth _
