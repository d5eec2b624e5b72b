-- What the tests of ranges of ids work with.
use Rattle.std.specs.Prelude.{ℕ, Bool, true, not, ◌+◌, ◌&&◌, nat_le, List, [], ◌∷◌, Option, Some}
use Rattle.fp_tables.specs.Lists.{some_and}

-- a base id and the largest local id beside it, as a range
abbrev pub ends_of : ℕ × ℕ → ℕ × ℕ
ends_of r = (r.0, r.0 + r.1)

-- each range begins above where the one before it ends
abbrev pub rise_above : Option ℕ → List (ℕ × ℕ) → Bool
rise_above last [] = true
rise_above last (r ∷ rs) = not (some_and (λ l. nat_le r.0 l) last) && rise_above (Some (r.0 + r.1)) rs
