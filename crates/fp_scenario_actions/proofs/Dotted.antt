-- Texts round their last dot.
use Rattle.std.proofs.Common.{◌≡◌, ◌≢◌, ℕ, zero, suc, ◌+◌, ◌<◌, true, false, cond, List, [], ◌∷◌, length, take, drop, get_or, Option, Some, None, refl, sym, ap, ◌∙◌, arith, add-one}
use Rattle.std.specs.Prelude.{option_and_then, ◌==◌}
use Rattle.std.proofs.lemmas.Bool.Decides.{nat_tests}
use Rattle.fp_tables.specs.Lookup.{Described}
use Rattle.fp_tables.specs.declared.topology.End.{End}
use Rattle.fp_scenario_actions.specs.Named.{placed_named}
use Rattle.fp_scenario_actions.specs.Calling.{from_rest, last_parted, input_at, input_of_parts, input_named}

no_dot : (b : ℕ) → b ≢ 46 → (b == 46) ≡ false
no_dot b h = grind (arith, nat_tests)

a_dot : (b : ℕ) → b ≡ 46 → (b == 46) ≡ true
a_dot b h = grind (arith, nat_tests)

pub undotted : (bs : List ℕ) → ((i : ℕ) → i < length bs → get_or bs i 0 ≢ 46) → last_parted bs ≡ None
undotted [] h = refl
undotted (b ∷ bs) h =
    ap (from_rest b bs) (undotted bs (λ i lt. h (suc i) (omega arith))) ∙ ap (λ same. cond same (Some ([], bs)) None) (no_dot b (h 0 (omega arith)))

dotted_at : (bs : List ℕ) (k : ℕ) → k < length bs → get_or bs k 0 ≡ 46 → ((i : ℕ) → k < i → i < length bs → get_or bs i 0 ≢ 46) → last_parted bs ≡ Some (take k bs, drop (suc k) bs)
dotted_at [] k lt here later = absurd (omega arith)
dotted_at (b ∷ bs) zero lt here later =
    ap (from_rest b bs) (undotted bs (λ i within. later (suc i) (omega arith) (omega arith))) ∙ ap (λ same. cond same (Some ([], bs)) None) (a_dot b here)
dotted_at (b ∷ bs) (suc k) lt here later =
    ap (from_rest b bs) (dotted_at bs k (omega arith) here (λ i above within. later (suc i) (omega arith) (omega arith)))

pub dotted : (bs : List ℕ) (k : ℕ) → (k < length bs) × (get_or bs k 0 ≡ 46) × ((i : ℕ) → k < i → i < length bs → get_or bs i 0 ≢ 46) → last_parted bs ≡ Some (take k bs, drop (k + 1) bs)
dotted bs k h = rw add-one (dotted_at bs k h.0 h.1 h.2)

module _ (t : Described) (bs : List ℕ) where
  pub input_there : (k i : ℕ) (front back : List ℕ) (e : Option End) → last_parted bs ≡ Some (take k bs, drop (k + 1) bs) → front ≡ take k bs → back ≡ drop (k + 1) bs → Some i ≡ placed_named t front → e ≡ input_at t back i → e ≡ input_named t bs
  input_there k i front back e parts front_is back_is placed found =
      found ∙ ap (λ b. input_at t b i) back_is ∙ ap (option_and_then (input_at t (drop (k + 1) bs))) (placed ∙ ap (placed_named t) front_is) ∙ ap (option_and_then (input_of_parts t)) (sym parts)

  pub input_unplaced : (k : ℕ) (front : List ℕ) → last_parted bs ≡ Some (take k bs, drop (k + 1) bs) → front ≡ take k bs → None ≡ placed_named t front → None ≡ input_named t bs
  input_unplaced k front parts front_is placed = ap (option_and_then (input_at t (drop (k + 1) bs))) (placed ∙ ap (placed_named t) front_is) ∙ ap (option_and_then (input_of_parts t)) (sym parts)

  pub input_undotted : last_parted bs ≡ None → None ≡ input_named t bs
  input_undotted parts = ap (option_and_then (input_of_parts t)) (sym parts)
