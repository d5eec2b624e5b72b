-- Rows that begin with the constants of each definition and get what is given to it.
use Rattle.std.specs.Prelude.{◌≡◌, ℕ, ◌+◌, List, [], ◌∷◌, ◌++◌, cond, nat_eq, length, slice_get, Some}

-- so many numbers from the first on
pub record AreNumbersFrom (first count : ℕ) (row : List ℕ) : Type 0 where
  pub each : length row ≡ count
  pub numbers : (k n : ℕ) → slice_get row k ≡ Some n → n ≡ first + k

-- a row for each number, with so many numbers behind it
pub record AreBegun (counts : List ℕ) (rows : List (List ℕ)) : Type 0 where
  pub each : length rows ≡ length counts
  pub runs : (v n : ℕ) (row : List ℕ) → slice_get counts v ≡ Some n → slice_get rows v ≡ Some row → AreNumbersFrom (v + 1) n row

-- what is given to a number, of pairs side by side
abbrev pub given_to : {A : Type 0} → ℕ → List ℕ → List A → List A
given_to v [] ts = []
given_to v (u ∷ us) [] = []
given_to v (u ∷ us) (t ∷ ts) = cond (nat_eq u v) (t ∷ given_to v us ts) (given_to v us ts)

-- each row has got what is given to its number
pub record Got (users targets : List ℕ) (before after : List (List ℕ)) : Type 0 where
  pub each : length after ≡ length before
  pub rows : (v : ℕ) (old : List ℕ) → slice_get before v ≡ Some old → slice_get after v ≡ Some (old ++ given_to v users targets)

-- one pair
pub record GotOne (user target : ℕ) (before after : List (List ℕ)) : Type 0 where
  pub each : length after ≡ length before
  pub here : (old : List ℕ) → slice_get before user ≡ Some old → slice_get after user ≡ Some (old ++ target ∷ [])
  pub others : (v : ℕ) → (v ≡ user → ⊥) → slice_get after v ≡ slice_get before v
