-- The names that stand in members, in source order: those of modules and of what stands in them, and those in uses. FPP Language
-- Specification, "Definitions" and "Location Specifiers".
use Rattle.std.specs.Prelude.{List, ◌∷◌, flat_map, []}
use Rattle.fp_tree.specs.declared.name.Name.{Name}
use Rattle.fp_tree.specs.declared.member.Member.{Member, Member-F, fold-Member}
use Rattle.fp_tree.specs.declared.member.Member.TheOpen as member
use Rattle.fp_tree.specs.declared.member.Module.{Module-F}
use Rattle.fp_places.specs.Parts.{names_in_definition}
use Rattle.fp_places.specs.Machines.{names_in_machine}
use Rattle.fp_places.specs.Components.{names_in_component, names_in_interface}
use Rattle.fp_places.specs.Topologies.{names_in_instance, names_in_topology}

abbrev pub names_of_member : Member-F (List Name) (List Name) → List Name
names_of_member (member.Module names) = names
names_of_member (member.Def d) = names_in_definition d
names_of_member (member.Machine m) = names_in_machine m
names_of_member (member.Component c) = names_in_component c
names_of_member (member.Interface i) = names_in_interface i
names_of_member (member.Instance i) = names_in_instance i
names_of_member (member.Topology t) = names_in_topology t
names_of_member (member.Include i) = []
names_of_member (member.Locate l) = l.of.names

abbrev pub names_of_module : Module-F (List Name) (List Name) → List Name
names_of_module m = m.name ∷ flat_map (λ names. names) m.members

abbrev pub names_within : Member → List Name
names_within m = fold-Member (List Name) (List Name) names_of_member names_of_module m

abbrev pub names_in : List Member → List Name
names_in ms = flat_map names_within ms
