-- What a sound model, whose matched ports have one size, gives to the connections of its topologies.
use Rattle.std.proofs.Common.{◌≡◌, refl, ℕ, true, List, [], length, Option, None, Some, slice_get}
use Rattle.std.specs.Prelude.{unwrap_or}
use Rattle.std.specs.List.{list_all, Contains}
use Rattle.std.specs.Option.{option_and_then, option_map}
use Rattle.fp_base.proofs.Bools.{both}
use Rattle.fp_base.proofs.Lists.{all_get}
use Rattle.fp_base.proofs.Options.{then_some}
use Rattle.fp_base.proofs.Numbers.{same_number}
use Rattle.fp_tables.specs.Positions.{component_of, positions_lie, component_lies, topology_lies, link_lies}
use Rattle.fp_tables.specs.declared.component.Port.{Port}
use Rattle.fp_tables.specs.declared.component.Component.{Component}
use Rattle.fp_tables.specs.declared.topology.Instance.{Instance}
use Rattle.fp_tables.specs.declared.topology.Topology.{Topology}
use Rattle.fp_tables.specs.declared.model.Model.{Model}
use Rattle.fp_numbering.specs.Ends.{size_of, matches_of}
use Rattle.fp_numbering.specs.Answers.{links_of}
use Rattle.fp_numbering.specs.Labels.{AreSound, matches_lie, has_one_size, matched_ports_have_one_size}
use Rattle.fp_numbering.proofs.Keying.{of_contains, all_member}

module _ (m : Model) (lies : positions_lie m ≡ true) where
  components_lie : list_all (component_lies (length m.types) (length m.ports) (length m.machines)) m.components ≡ true
  components_lie = (both _ _ (both _ _ (both _ _ (both _ _ (both _ _ lies).0).0).0).0).1

  topologies_lie : list_all (topology_lies m) m.topologies ≡ true
  topologies_lie = (both _ _ (both _ _ lies).0).1

  matched : matches_lie m.components
  matched k c e = (both _ _ (both _ _ (all_get (component_lies (length m.types) (length m.ports) (length m.machines)) m.components k c components_lie e)).0).1

  links_lie : (o : Option Topology) (t : ℕ) → slice_get m.topologies t ≡ o → list_all (link_lies m) (unwrap_or (option_map (λ (x : Topology). x.links) o) []) ≡ true
  links_lie None t e = refl
  links_lie (Some o) t e = (both _ _ (both _ _ (all_get (topology_lies m) m.topologies t o topologies_lie e)).0).1

abbrev matches_in : Option Component → List (ℕ × ℕ)
matches_in o = unwrap_or (option_map (λ (c : Component). c.matches) o) []

abbrev size_by : Option Component → ℕ → ℕ
size_by o p = unwrap_or (option_map (λ (x : Port). x.size) (option_and_then (λ (c : Component). slice_get c.ports p) o)) 0

module _ (m : Model) (one : matched_ports_have_one_size m ≡ true) where
  in_component : (c : Component) (q : ℕ × ℕ) → list_all (has_one_size c.ports) c.matches ≡ true → Contains c.matches q → has_one_size c.ports q ≡ true
  in_component c q h k = all_member (has_one_size c.ports) c.matches q h (of_contains c.matches q k.0 k.1 k.2)

  sizes : (i : ℕ) (q : ℕ × ℕ) → Contains (matches_of m i) q → size_of m i q.0 ≡ size_of m i q.1
  sizes i q k = by (component_of m i) refl k
    where
      by : (o : Option Component) → component_of m i ≡ o → Contains (matches_in o) q → size_by o q.0 ≡ size_by o q.1
      by None e f = refl
      by (Some c) e f =
          let x = then_some (λ (y : Instance). slice_get m.components y.component) (slice_get m.instances i) c e in
          same_number _ _ (in_component c q (all_get (λ (d : Component). list_all (has_one_size d.ports) d.matches) m.components x.0.component c one x.2) f)

pub are_sound : (m : Model) (t : ℕ) → positions_lie m ≡ true → matched_ports_have_one_size m ≡ true → AreSound m (links_of m t)
are_sound m t lies one = record { matched = matched m lies; sizes = sizes m one; ends = links_lie m lies (slice_get m.topologies t) t refl }
