-- The rules of numbering that a topology breaks, each with its place.
use Rattle.std.specs.Prelude.{◌≡◌, ◌≢◌, ◌<◌, ◌⊎◌, ℕ, true, false, ℤ, List, Option, Some, None, slice_get}
use Rattle.std.specs.List.{Contains}
use Rattle.fp_base.specs.declared.refusal.Refusal.{Refusal}
use Rattle.fp_base.specs.declared.rule.Rule.TheVariants.{PortNumberRange, OutputNumberTwice, MatchPairMissing, MatchPairRepeated, MatchNumbersDiffer, NoNumberFree}
use Rattle.fp_base.specs.Least.{broken_at, InSome}
use Rattle.fp_tables.specs.declared.topology.Written.{Written}
use Rattle.fp_numbering.specs.Ends.{at_one_port, number_below, written_number}
use Rattle.fp_numbering.specs.declared.tips.Tip.{Tip}
use Rattle.fp_numbering.specs.Pairs.{has, pairs, is_at, are_alike, alike_at, is_whole, said_of, first_of}
use Rattle.fp_numbering.specs.Numbers.{Numbered, Source, source_of}
use Rattle.fp_numbering.specs.Numbers.Source.{Paired, Output}

-- a written number below 0 or not below the port's size, at the number
abbrev pub IsOutOfRange : ℕ → Tip → Refusal → Type 0
IsOutOfRange k t f = (w : Written) × (t.written ≡ Some w) × (number_below t.size w.number ≡ None) × (f ≡ broken_at PortNumberRange w.at)

module _ (matches : ℕ → List (ℕ × ℕ)) (ts : List Tip) where
  -- at an output port the number that is written or given by a match at an earlier end
  abbrev pub IsTwice : ℕ → Tip → Refusal → Type 0
  IsTwice k t f =
      (j : ℕ) × (s : Tip) × (z : ℤ) × (j < k) × (slice_get ts j ≡ Some s) × (s.begins ≡ true) × (t.begins ≡ true) × (at_one_port s t ≡ true)
      × (said_of matches ts s j ≡ Some z) × (said_of matches ts t k ≡ Some z) × (f ≡ broken_at OutputNumberTwice t.at)

  -- no end at one of the ports of a match has the end's instance and other instance
  abbrev pub IsMissing : ℕ → Tip → Refusal → Type 0
  IsMissing k t f =
      (q : ℕ × ℕ) × Contains (matches t.instance) q × (is_at q t ≡ true) × (t.unmatched ≡ false) × ((alike_at matches ts t q.0 ≡ 0) ⊎ (alike_at matches ts t q.1 ≡ 0))
      × (f ≡ broken_at MatchPairMissing t.at)

  -- an earlier end at the port of a match has the end's instance and other instance
  abbrev pub IsRepeated : ℕ → Tip → Refusal → Type 0
  IsRepeated k t f =
      (q : ℕ × ℕ) × (j : ℕ) × (s : Tip) × Contains (matches t.instance) q × (is_at q t ≡ true) × (j < k) × (slice_get ts j ≡ Some s) × (are_alike s t ≡ true)
      × (s.port ≡ t.port) × (f ≡ broken_at MatchPairRepeated t.at)

  -- an earlier end of the pair has another written number
  abbrev pub AreDifferent : ℕ → Tip → Refusal → Type 0
  AreDifferent k t f =
      (g : List ℕ) × (j : ℕ) × (s : Tip) × (y : ℤ) × (z : ℤ) × Contains (pairs matches ts) g × (is_whole matches ts g ≡ true) × (has g j ≡ true) × (has g k ≡ true)
      × (j < k) × (slice_get ts j ≡ Some s) × (written_number s ≡ Some y) × (written_number t ≡ Some z) × (y ≢ z)
      × (f ≡ broken_at MatchNumbersDiffer t.at)

  -- the place where a number that isn't found is wanted: the first end of a pair that is at the first port of a match, or an output that no match pairs
  abbrev pub asks_here : ℕ → Source → Type 0
  asks_here k (Paired g) = k ≡ first_of matches ts g
  asks_here k Output = Unit {0}
  asks_here k _ = ⊥

  -- each number below the size is used
  abbrev pub FindsNone : ℕ → Tip → Refusal → Type 0
  FindsNone k t f = (ns : List (Option ℕ)) × Numbered matches ts ns × (slice_get ns k ≡ Some None) × asks_here k (source_of matches ts t k) × (f ≡ broken_at NoNumberFree t.at)

  -- a rule that an end breaks
  abbrev pub IsTipBroken : ℕ → Tip → Refusal → Type 0
  IsTipBroken k t f = IsOutOfRange k t f ⊎ IsTwice k t f ⊎ IsMissing k t f ⊎ IsRepeated k t f ⊎ AreDifferent k t f ⊎ FindsNone k t f

  abbrev pub Breaks : Refusal → Type 0
  Breaks f = InSome IsTipBroken ts f
