-- The includes of a module, of a component and of a topology, and what stands in their places.
use Rattle.std.proofs.Common.{◌≡◌, List, [], ◌∷◌, ◌++◌, map, sym, ap, ◌∙◌}
use Rattle.std.proofs.lemmas.List.{append_assoc}
use Rattle.std.proofs.lemmas.List.Folds.{flat_map-map}
use Rattle.std.specs.Prelude.{flat_map}
use Rattle.fp_tree.specs.declared.component.Component.{Component}
use Rattle.fp_tree.specs.declared.member.Member.{Member, fold-Member, fold-roll-Member}
use Rattle.fp_tree.specs.declared.member.Member.TheOpen as open_member
use Rattle.fp_tree.specs.declared.member.Member.TheVariants.{rolls-Component, rolls-Module, rolls-Topology}
use Rattle.fp_tree.specs.declared.member.Member.TheVariants as member
use Rattle.fp_tree.specs.declared.member.Module.{Module as Opened, out-Module, fold_out-Module}
use Rattle.fp_tree.specs.declared.topology.Topology.{Topology}
use Rattle.fp_gather.specs.declared.gathering.including.Inclusion.{Inclusion}
use Rattle.fp_gather.specs.gathering.Includes.{Inserts, Placed, in_turn, inclusions_in_part, inclusions_in_topology_member, inclusions_of_member, inclusions_of_module, inclusions_within, place_in_member, place_in_module, placed, placed_component, placed_module}

pub module_inclusions : (m : Opened) → inclusions_within (member.Module m) ≡ flat_map inclusions_within (out-Module m).members
module_inclusions m =
    ap inclusions_within (sym (rolls-Module m))
    ∙ fold-roll-Member (List Inclusion) (List Inclusion) inclusions_of_member inclusions_of_module (open_member.Module m)
    ∙ fold_out-Module (List Inclusion) (List Inclusion) inclusions_of_member inclusions_of_module m
    ∙ flat_map-map (λ (is : List Inclusion). is) (fold-Member (List Inclusion) (List Inclusion) inclusions_of_member inclusions_of_module) (out-Module m).members

pub component_inclusions : (c : Component) → inclusions_within (member.Component c) ≡ flat_map inclusions_in_part c.parts
component_inclusions c =
    ap inclusions_within (sym (rolls-Component c))
    ∙ fold-roll-Member (List Inclusion) (List Inclusion) inclusions_of_member inclusions_of_module (open_member.Component c)

pub topology_inclusions : (t : Topology) → inclusions_within (member.Topology t) ≡ flat_map inclusions_in_topology_member t.members
topology_inclusions t =
    ap inclusions_within (sym (rolls-Topology t))
    ∙ fold-roll-Member (List Inclusion) (List Inclusion) inclusions_of_member inclusions_of_module (open_member.Topology t)

pub module_placed : (m : Opened) (inserts : Inserts) → placed (member.Module m) inserts ≡ placed_module m inserts
module_placed m inserts =
    ap (λ (x : Member). placed x inserts) (sym (rolls-Module m))
    ∙ ap (λ (f : Inserts → Placed Member). f inserts) (fold-roll-Member (Inserts → Placed Member) (Inserts → Placed Member) place_in_member place_in_module (open_member.Module m))

pub component_placed : (c : Component) (inserts : Inserts) → placed (member.Component c) inserts ≡ placed_component c inserts
component_placed c inserts =
    ap (λ (x : Member). placed x inserts) (sym (rolls-Component c))
    ∙ ap (λ (f : Inserts → Placed Member). f inserts) (fold-roll-Member (Inserts → Placed Member) (Inserts → Placed Member) place_in_member place_in_module (open_member.Component c))

pub opened_placed : (m : Opened) (inserts : Inserts) →
    placed_module m inserts
    ≡ record {
      items = member.Module (record { name = (out-Module m).name; members = (in_turn (map placed (out-Module m).members) inserts).items; at = (out-Module m).at; note = (out-Module m).note }) ∷ [];
      left = (in_turn (map placed (out-Module m).members) inserts).left;
    }
opened_placed m inserts = ap (λ (f : Inserts → Placed Member). f inserts) (fold_out-Module (Inserts → Placed Member) (Inserts → Placed Member) place_in_member place_in_module m)

-- one node more
pub placed_more : {A : Type 0} (step : A → Inserts → Placed A) (whole : Placed A) (out more items : List A) (x : A) (rest : List A) (inserts left : Inserts)
    → whole ≡ record { items = out ++ (in_turn (map step items) inserts).items; left = (in_turn (map step items) inserts).left } → items ≡ x ∷ rest
    → more ≡ out ++ (step x inserts).items → left ≡ (step x inserts).left
    → whole ≡ record { items = more ++ (in_turn (map step rest) left).items; left = (in_turn (map step rest) left).left }
placed_more {A = A} step whole out more items x rest inserts left e ei em el =
    e
    ∙ ap (λ (xs : List A). record { items = out ++ (in_turn (map step xs) inserts).items; left = (in_turn (map step xs) inserts).left }) ei
    ∙ ap (λ (xs : List A). record { items = xs; left = (in_turn (map step rest) (step x inserts).left).left })
    (sym (append_assoc out (step x inserts).items (in_turn (map step rest) (step x inserts).left).items))
    ∙ ap (λ (xs : List A). record { items = xs ++ (in_turn (map step rest) (step x inserts).left).items; left = (in_turn (map step rest) (step x inserts).left).left }) (sym em)
    ∙ ap (λ (l : Inserts). record { items = more ++ (in_turn (map step rest) l).items; left = (in_turn (map step rest) l).left }) (sym el)
