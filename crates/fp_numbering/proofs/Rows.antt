-- Topologies with rows of wires are numbered where the rows are their numbers.
use Rattle.std.proofs.Common.{◌≡◌, ℕ, zero, suc, List, [], ◌∷◌, length, slice_get, Some, refl, ap, sym, subst, arith}
use Rattle.fp_tables.specs.declared.model.Model.{Model}
use Rattle.fp_tables.specs.declared.topology.Topology.{Topology}
use Rattle.fp_tables.specs.declared.topology.Wire.{Wire}
use Rattle.fp_numbering.specs.Answers.{AreNumbered}
use Rattle.fp_numbering.specs.Found.{first_row, other_rows, wired, wired_one}
use Rattle.fp_numbering.specs.Wired.{AreAllNumbered, IsNumbered, IsWired, with_topologies}

-- each row has the numbers of the topology at its place
abbrev pub AreRows : Model → List Topology → List (List Wire) → Type 0
AreRows m os ws = (t : ℕ) (o : Topology) (w : List Wire) → slice_get os t ≡ Some o → slice_get ws t ≡ Some w → AreNumbered m o.links w

wired_length : (os : List Topology) (ws : List (List Wire)) → length (wired os ws) ≡ length os
wired_length [] ws = refl
wired_length (o ∷ os) ws = ap suc (wired_length os (other_rows ws))

module _ (m : Model) where
  wired_at : (os : List Topology) (ws : List (List Wire)) → length ws ≡ length os → AreRows m os ws
      → (t : ℕ) (o p : Topology) → slice_get os t ≡ Some o → slice_get (wired os ws) t ≡ Some p → IsNumbered m o p
  wired_at [] ws e rows t o p here there = absurd (cc)
  wired_at (q ∷ os) [] e rows t o p here there = absurd (cc)
  wired_at (q ∷ os) (w ∷ ws) e rows zero o p here there =
      let one : q ≡ o = cc in
      let made : wired_one q w ≡ p = cc in
      subst (λ (x : Topology). IsNumbered m o x) made (subst (λ (x : Topology). IsNumbered m x (wired_one q w)) one (record { name = refl; instances = refl; links = refl; wires = rows 0 q w refl refl }))
  wired_at (q ∷ os) (w ∷ ws) e rows (suc t) o p here there =
      wired_at os ws (omega (arith, e)) (λ u x y a b. rows (suc u) x y a b) t o p here there

  pub all_wired : (ws : List (List Wire)) (whole : Model) → length ws ≡ length m.topologies → AreRows m m.topologies ws → whole ≡ with_topologies m (wired m.topologies ws) → IsWired m whole
  all_wired ws whole e rows is =
      subst (λ (x : Model). IsWired m x) (sym is)
      (record { topologies = record { each = wired_length m.topologies ws; at = wired_at m.topologies ws e rows }; rest = refl })
