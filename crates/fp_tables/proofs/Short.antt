-- Lists of a model whose lists are short.
use Rattle.std.proofs.Common.{◌≡◌, ℕ, ◌<◌, ◌^◌, true, List, Some, length, sym, arith, slice_get}
use Rattle.std.specs.List.{list_all}
use Rattle.std.proofs.lemmas.Bool.Decides.{nat_tests}
use Rattle.fp_base.proofs.Bools.{both}
use Rattle.fp_base.proofs.Options.{then_some}
use Rattle.fp_base.proofs.Lists.{all_get}
use Rattle.fp_tables.specs.Positions.{component_is_short, machine_is_short, is_short, lists_are_short, component_of}
use Rattle.fp_tables.specs.declared.component.Component.{Component}
use Rattle.fp_tables.specs.declared.topology.Instance.{Instance}
use Rattle.fp_tables.specs.declared.topology.Topology.{Topology}
use Rattle.fp_tables.specs.declared.model.Model.{Model}

pub short_length : {X : Type 0} (xs : List X) → is_short xs ≡ true → length xs < 2 ^ 32
short_length xs h = grind (arith, nat_tests)

pub topology_is_short : (m : Model) (t : ℕ) (o : Topology) → lists_are_short m ≡ true → slice_get m.topologies t ≡ Some o → length o.instances < 2 ^ 32
topology_is_short m t o h e =
    short_length o.instances (all_get (λ (x : Topology). is_short x.instances) m.topologies t o (both _ (list_all (λ (x : Topology). is_short x.instances) m.topologies) h).1 e)

few : (x : Component) → component_is_short x ≡ true → length x.ports < 2 ^ 32
few x h = grind (arith, nat_tests)

pub ports_are_few : (m : Model) (i : ℕ) (x : Component) → lists_are_short m ≡ true → Some x ≡ component_of m i → length x.ports < 2 ^ 32
ports_are_few m i x short is =
    let topologies = both _ (list_all (λ (t : Topology). is_short t.instances) m.topologies) short in
    let machines = both _ (list_all machine_is_short m.machines) topologies.0 in
    let components = both _ (list_all component_is_short m.components) machines.0 in
    let y = then_some (λ (y : Instance). slice_get m.components y.component) (slice_get m.instances i) x (sym is) in
    few x (all_get component_is_short m.components y.0.component x components.1 y.2)
