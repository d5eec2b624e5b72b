-- What is found of the topologies of a model, one after another.
use Rattle.std.specs.Prelude.{◌≡◌, ℕ, ◌+◌, List, [], ◌∷◌, length, slice_get, Some, None}
use Rattle.fp_base.specs.declared.refusal.Refusal.{Refusal}
use Rattle.fp_base.specs.Least.{InFirst, IsLeast}
use Rattle.fp_tables.specs.declared.model.Model.{Model}
use Rattle.fp_tables.specs.declared.topology.Topology.{Topology}
use Rattle.fp_tables.specs.declared.topology.Wire.{Wire}
use Rattle.fp_numbering.specs.Answers.{AreNumbered}
use Rattle.fp_numbering.specs.Wired.{BrokenIn, NumbersBroken}
use Rattle.fp_numbering.specs.declared.wiring.WiresFound.{WiresFound}

-- of the first so many: the least rule, and where none is broken the wires of each
pub record AreFoundFirst (m : Model) (count : ℕ) (found : WiresFound) : Type 0 where
  pub least : IsLeast (InFirst count (BrokenIn m) m.topologies) found.first
  pub each : found.first ≡ None → length found.wires ≡ count
  pub numbered : found.first ≡ None → (t : ℕ) (o : Topology) (w : List Wire) → slice_get m.topologies t ≡ Some o → slice_get found.wires t ≡ Some w → AreNumbered m o.links w

abbrev pub IsFoundWith : Model → ℕ → WiresFound → WiresFound → Type 0
IsFoundWith m t before after = AreFoundFirst m t before → AreFoundFirst m (t + 1) after

pub record AreFound (m : Model) (found : WiresFound) : Type 0 where
  pub least : IsLeast (NumbersBroken m) found.first
  pub each : found.first ≡ None → length found.wires ≡ length m.topologies
  pub numbered : found.first ≡ None → (t : ℕ) (o : Topology) (w : List Wire) → slice_get m.topologies t ≡ Some o → slice_get found.wires t ≡ Some w → AreNumbered m o.links w

-- ---- topologies with rows of wires

abbrev pub wired_one : Topology → List Wire → Topology
wired_one o w = record { name = o.name; instances = o.instances; links = o.links; wires = w }

abbrev pub first_row : List (List Wire) → List Wire
first_row [] = []
first_row (w ∷ ws) = w

abbrev pub other_rows : List (List Wire) → List (List Wire)
other_rows [] = []
other_rows (w ∷ ws) = ws

abbrev pub wired : List Topology → List (List Wire) → List Topology
wired [] ws = []
wired (o ∷ os) ws = wired_one o (first_row ws) ∷ wired os (other_rows ws)
