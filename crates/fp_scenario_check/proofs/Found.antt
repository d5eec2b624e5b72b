-- What is found by its name is one of the list.
use Rattle.std.proofs.Common.{◌≡◌, Bool, true, false, cond, List, [], ◌∷◌, Option, Some, None, find, subst}
use Rattle.std.specs.List.{list_all}
use Rattle.fp_base.proofs.Bools.{both}
use Rattle.fp_base.proofs.Options.{same_some}
use Rattle.fp_tables.specs.Positions.{component_is_short, machine_is_short, is_short, lists_are_short}
use Rattle.fp_tables.specs.declared.component.Component.{Component}
use Rattle.fp_tables.specs.declared.topology.Topology.{Topology}
use Rattle.fp_tables.specs.declared.model.Model.{Model}

module _ (p test : Component → Bool) (c : Component) where
  head_or_rest : (b : Bool) (d : Component) (o : Option Component) → test d ≡ true → (o ≡ Some c → test c ≡ true) → cond b (Some d) o ≡ Some c → test c ≡ true
  head_or_rest true d o holds rest e = subst (λ (x : Component). test x ≡ true) (same_some e) holds
  head_or_rest false d o holds rest e = rest e

  found_holds : (cs : List Component) → list_all test cs ≡ true → find p cs ≡ Some c → test c ≡ true
  found_holds [] h e = absurd cc
  found_holds (d ∷ ds) h e =
      let parts = both (test d) (list_all test ds) h in head_or_rest (p d) d (find p ds) parts.0 (λ f. found_holds ds parts.1 f) e

pub found_short : (m : Model) (p : Component → Bool) (c : Component) → lists_are_short m ≡ true → find p m.components ≡ Some c → component_is_short c ≡ true
found_short m p c short e =
    let topologies = both _ (list_all (λ (t : Topology). is_short t.instances) m.topologies) short in
    let machines = both _ (list_all machine_is_short m.machines) topologies.0 in
    let components = both _ (list_all component_is_short m.components) machines.0 in
    found_holds p component_is_short c m.components components.1 e
