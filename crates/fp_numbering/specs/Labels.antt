-- Labels of the ports of each component, and of a port of an instance.
use Rattle.std.specs.Prelude.{◌≡◌, ℕ, Bool, true, ◌==◌, List, [], length, Option, Some, option_map, option_and_then, unwrap_or, slice_get, get_or}
use Rattle.std.specs.List.{list_all, Contains}
use Rattle.fp_tables.specs.Positions.{link_lies}
use Rattle.fp_tables.specs.declared.component.Port.{Port}
use Rattle.fp_tables.specs.declared.component.Component.{Component}
use Rattle.fp_tables.specs.declared.topology.Instance.{Instance}
use Rattle.fp_tables.specs.declared.topology.Link.{Link}
use Rattle.fp_tables.specs.declared.model.Model.{Model}
use Rattle.fp_numbering.specs.Ends.{size_of, matches_of}
use Rattle.fp_numbering.specs.Keys.{lie_below, AreLabels}

abbrev pub labels_at : Model → List (List ℕ) → ℕ → Option (List ℕ)
labels_at m ls i = option_and_then (λ (x : Instance). slice_get ls x.component) (slice_get m.instances i)

abbrev pub label_at : Model → List (List ℕ) → ℕ → ℕ → ℕ
label_at m ls i p = get_or (unwrap_or (labels_at m ls i) []) p 0

pub record AreAllLabels (cs : List Component) (ls : List (List ℕ)) : Type 0 where
  pub each : length ls ≡ length cs
  pub of : (k : ℕ) (c : Component) → slice_get cs k ≡ Some c → AreLabels (length c.ports) c.matches (get_or ls k [])

-- the ports of matches are ports
abbrev pub matches_lie : List Component → Type 0
matches_lie cs = (k : ℕ) (c : Component) → slice_get cs k ≡ Some c → lie_below (length c.ports) c.matches ≡ true

-- the ports of matches and of connections are ports, and the two ports of a match have one size
pub record AreSound (m : Model) (links : List Link) : Type 0 where
  pub matched : matches_lie m.components
  pub sizes : (i : ℕ) (q : ℕ × ℕ) → Contains (matches_of m i) q → size_of m i q.0 ≡ size_of m i q.1
  pub ends : list_all (link_lies m) links ≡ true

-- the same, as a test of a whole model
abbrev pub size_in : List Port → ℕ → ℕ
size_in ports p = unwrap_or (option_map (λ (x : Port). x.size) (slice_get ports p)) 0

abbrev pub has_one_size : List Port → ℕ × ℕ → Bool
has_one_size ports q = size_in ports q.0 == size_in ports q.1

abbrev pub matched_ports_have_one_size : Model → Bool
matched_ports_have_one_size m = list_all (λ (c : Component). list_all (has_one_size c.ports) c.matches) m.components
