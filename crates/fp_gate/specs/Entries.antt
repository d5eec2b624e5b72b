-- Histories, and what each pass left in them.
use Rattle.std.specs.Prelude.{ℕ, List, [], ◌∷◌, if◌then◌else◌, ◌==◌}
use Rattle.fp_gate.specs.declared.booked.Entry.{Entry}

module _ {I : Type 0} where
  -- the entries of one pass, in order
  abbrev pub entries_of : ℕ → List (Entry I) → List (Entry I)
  entries_of number [] = []
  entries_of number (e ∷ es) = if e.by == number then e ∷ entries_of number es else entries_of number es
