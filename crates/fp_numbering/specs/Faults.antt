-- Numbers that are written twice at an output, and outputs that find none.
use Rattle.std.specs.Prelude.{◌≡◌, ℕ, Bool, true, ◌&&◌, ◌==◌, ℤ, List, Option, Some, None, slice_get, take}
use Rattle.std.specs.List.{list_any}
use Rattle.std.specs.Ordering.{nat_cmp, int_cmp, int_eq, ordering_then}
use Rattle.std.specs.declared.cmp.Ordering.{Ordering}
use Rattle.fp_base.specs.declared.refusal.Refusal.{Refusal}
use Rattle.fp_base.specs.declared.rule.Rule.TheVariants.{OutputNumberTwice, NoNumberFree}
use Rattle.fp_base.specs.Least.{broken_at}
use Rattle.fp_tables.specs.Lists.{some_and}
use Rattle.fp_numbering.specs.declared.tips.Tip.{Tip}
use Rattle.fp_numbering.specs.Ends.{written_number}

abbrev pub begun_cmp : ℕ × ℕ × ℤ → ℕ × ℕ × ℤ → Ordering
begun_cmp a b = ordering_then (ordering_then (nat_cmp a.0 b.0) (nat_cmp a.1 b.1)) (int_cmp a.2 b.2)

-- a connection begins at the port and number
abbrev pub begins_at : ℕ × ℕ × ℤ → Tip → Bool
begins_at q t = t.begins && (t.instance == q.0 && t.port == q.1 && some_and (λ z. int_eq z q.2) (written_number t))

-- a connection that begins with a written number where one of the others does
abbrev pub repeats : (ℕ × ℕ × ℤ → Bool) → Tip → Bool
repeats begun t = t.begins && some_and (λ z. begun (t.instance, t.port, z)) (written_number t)

module _ (ts : List Tip) where
  abbrev pub IsTwicePlainly : ℕ → Tip → Refusal → Type 0
  IsTwicePlainly k t f = (f ≡ broken_at OutputNumberTwice t.at) × (repeats (λ q. list_any (begins_at q) (take k ts)) t ≡ true)

  abbrev pub FindsNonePlainly : List (Option ℕ) → ℕ → Tip → Refusal → Type 0
  FindsNonePlainly ns k t f = (f ≡ broken_at NoNumberFree t.at) × ((t.begins ≡ true) × (written_number t ≡ None) × (slice_get ns k ≡ Some None))
