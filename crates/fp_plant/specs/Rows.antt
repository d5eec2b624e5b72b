-- Rows of items, and one item more in each.
use Rattle.std.specs.Prelude.{◌≡◌, ℕ, List, [], ◌∷◌, ◌++◌, length, Some, slice_get}

module _ {A : Type 0} where
  -- what holds of each item, by its row and its place there
  abbrev pub EachItem : (ℕ → ℕ → A → Type 0) → List (List A) → Type 0
  EachItem P rows = (r k : ℕ) (row : List A) (x : A) → slice_get rows r ≡ Some row → slice_get row k ≡ Some x → P r k x

  -- so many rows, each with so many items
  pub record HasShape (rows : List (List A)) (high wide : ℕ) : Type 0 where
    pub count : length rows ≡ high
    pub each : (r : ℕ) (row : List A) → slice_get rows r ≡ Some row → length row ≡ wide

  -- each row has got the item of its number
  pub record Extends (old : List (List A)) (xs : List A) (new : List (List A)) : Type 0 where
    pub count : length new ≡ length old
    pub each : (r : ℕ) (row : List A) (x : A) → slice_get old r ≡ Some row → slice_get xs r ≡ Some x → slice_get new r ≡ Some (row ++ x ∷ [])

  -- each row has got one item more, of which this holds by its row
  pub record Gets (P : ℕ → A → Type 0) (old new : List (List A)) : Type 0 where
    pub count : length new ≡ length old
    pub each : (r : ℕ) (row : List A) → slice_get old r ≡ Some row → (x : A) × (slice_get new r ≡ Some (row ++ x ∷ [])) × P r x
