-- What stands a second time in a list.
use Rattle.std.specs.Prelude.{◌≡◌, ℕ, ◌<◌, List, slice_get, Some}

-- the k-th of a list has this as a part
abbrev pub HasPart : {A K : Type 0} → (A → K) → List A → ℕ → K → Type 0
HasPart {A = A} part xs k key = (x : A) × (slice_get xs k ≡ Some x) × (part x ≡ key)

-- what the k-th has, an earlier one has too
abbrev pub IsRepeated : {K : Type 0} → (ℕ → K → Type 0) → ℕ → Type 0
IsRepeated {K = K} has k = (key : K) × (earlier : ℕ) × (earlier < k) × has earlier key × has k key
