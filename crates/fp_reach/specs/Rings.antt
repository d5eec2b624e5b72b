-- A graph as a list of edges, and the vertices on its cycles.
use Rattle.std.specs.Prelude.{◌≡◌, ◌<◌, ℕ, Bool, true, false, cond, List, [], ◌∷◌, ◌++◌, length, slice_get, Option, Some, option_and_then, unwrap_or}
use Rattle.std.specs.declared.cmp.Ordering.{Ordering}
use Rattle.std.specs.BTreeMap.{BTreeMap, get_by, is_at}
use Rattle.fp_graph.specs.Visits.{Among}
use Rattle.fp_reach.specs.Reaching.{Reaches}

-- an order tells all keys apart
abbrev pub Tells : {K : Type 0} → (K → K → Ordering) → Type 0
Tells {K = K} cmp = (x y : K) → is_at (cmp x) y ≡ true → x ≡ y

abbrev pub Step : {K : Type 0} → List (K × K) → K → K → Type 0
Step edges x y = Among edges (x, y)

-- the vertices that lead to themselves
pub record AreOnCycles {K : Type 0} (edges : List (K × K)) (found : List K) : Type 0 where
  pub sound : (x : K) → Among found x → Reaches (Step edges) x x
  pub complete : (x : K) → Reaches (Step edges) x x → Among found x

-- the row of the one has the other
pub record IsTarget (rows : List (List ℕ)) (from to : ℕ) : Type 0 where
  pub row : List ℕ
  pub here : slice_get rows from ≡ Some row
  pub k : ℕ
  pub target : slice_get row k ≡ Some to

-- numbers of vertices, and for each number a row of those to which its vertex leads
module _ {K : Type 0} (cmp : K → K → Ordering) where
  abbrev pub number_in : BTreeMap K ℕ → K → Option ℕ
  number_in numbers x = get_by (cmp x) numbers

  pub record IsNumbered (edges : List (K × K)) (numbers : BTreeMap K ℕ) (rows : List (List ℕ)) : Type 0 where
    pub within : (x : K) (n : ℕ) → number_in numbers x ≡ Some n → n < length rows
    pub one : (x y : K) (n : ℕ) → number_in numbers x ≡ Some n → number_in numbers y ≡ Some n → x ≡ y
    pub listed : (x y : K) → Step edges x y → (a b : ℕ) × (number_in numbers x ≡ Some a) × (number_in numbers y ≡ Some b) × IsTarget rows a b
    pub stands : (a b : ℕ) → IsTarget rows a b → (x y : K) × (number_in numbers x ≡ Some a) × (number_in numbers y ≡ Some b) × Step edges x y

  -- a vertex has its number, and all others keep theirs
  pub record Numbers (x : K) (n : ℕ) (before after : BTreeMap K ℕ) (rows_before rows_after : List (List ℕ)) : Type 0 where
    pub here : number_in after x ≡ Some n
    pub kept : Tells cmp → (y : K) (k : ℕ) → number_in before y ≡ Some k → number_in after y ≡ Some k
    pub same : Tells cmp → (edges : List (K × K)) → IsNumbered edges before rows_before → IsNumbered edges after rows_after

  abbrev pub is_flagged : BTreeMap K ℕ → List Bool → K → Bool
  is_flagged numbers flags x = unwrap_or (option_and_then (slice_get flags) (number_in numbers x)) false

  abbrev pub flagged : BTreeMap K ℕ → List Bool → K × K → List K
  flagged numbers flags edge = cond (is_flagged numbers flags edge.1) (edge.1 ∷ []) []

-- a row has one target more
pub record IsLinked (from to : ℕ) (before after : List (List ℕ)) : Type 0 where
  pub each : length after ≡ length before
  pub here : (old : List ℕ) → slice_get before from ≡ Some old → slice_get after from ≡ Some (old ++ to ∷ [])
  pub others : (v : ℕ) → (v ≡ from → ⊥) → slice_get after v ≡ slice_get before v
