-- How a queue's lanes hold what waits.
use Rattle.std.specs.Prelude.{◌≡◌, ℕ, ℤ, pos, ◌<◌, ◌≤◌, Bool, min, List, length, map, nat_eq, nat_lt, slice_index_or}
use Rattle.std.specs.List.{All, Contains, count_by, filter}
use Rattle.std.specs.List.Sorted.{IsSorted}
use Rattle.std.specs.Ordering.{int_cmp, int_eq, nat_cmp}
use Rattle.std.specs.BinaryHeap.{IsHeap, heap_items, heap_capacity}
use Rattle.std.specs.declared.collections.BinaryHeap.{BinaryHeap}
use Rattle.std.specs.VecDeque.{deque_capacity}
use Rattle.std.specs.declared.collections.VecDeque.{VecDeque}
use Rattle.std.specs.declared.alloc.Global.{Global}
use Rattle.fp_queue.specs.declared.pending.Pending.{Pending}

module _ {M : Type 0} where
  -- the items of one priority, in order
  abbrev pub items_of : ℤ → List (Pending M) → List M
  items_of k ps = map (λ p. p.item) (filter (λ p. int_eq p.priority k) ps)

  abbrev pub is_in_use : VecDeque M Global → Bool
  is_in_use lane = nat_lt 0 (length lane.items)

-- each priority stands once among the ranks, which ascend
pub record IsRanking (priorities ranks : List ℤ) : Type 0 where
  pub ascending : IsSorted int_cmp ranks
  pub apart : (i j : ℕ) → i < length ranks → j < length ranks → slice_index_or ranks i (pos 0) ≡ slice_index_or ranks j (pos 0) → i ≡ j
  pub known : (k : ℤ) → Contains priorities k → Contains ranks k

-- each lane holds the items of its rank, in order, and has room for as many as may wait
abbrev pub HoldEach : {M : Type 0} → ℕ → List ℤ → List (VecDeque M Global) → List (Pending M) → Type 0
HoldEach {M} size ranks lanes pending =
    (i : ℕ) (d : VecDeque M Global) → i < length lanes
    → ((slice_index_or lanes i d).items ≡ items_of (slice_index_or ranks i (pos 0)) pending) × (size ≤ deque_capacity (slice_index_or lanes i d))

-- the numbers noted are those of the lanes in use, each once
pub record AreNoted {M : Type 0} (lanes : List (VecDeque M Global)) (noted : List ℕ) : Type 0 where
  pub each : (i : ℕ) (d : VecDeque M Global) → i < length lanes → count_by (λ j. nat_eq j i) noted ≡ min 1 (length (slice_index_or lanes i d).items)
  pub within : All (λ i. i < length lanes) noted
  pub total : length noted ≡ count_by is_in_use lanes

pub record IsLaid {M : Type 0} (size : ℕ) (ranks : List ℤ) (lanes : List (VecDeque M Global)) (noted : List ℕ) (pending : List (Pending M)) : Type 0 where
  pub short : length pending ≤ size
  pub level : length lanes ≡ length ranks
  pub each : HoldEach size ranks lanes pending
  pub ranked : All (λ p. Contains ranks p.priority) pending
  pub notes : AreNoted lanes noted

-- all that a queue's fields keep
pub record IsReady {M : Type 0} (size len : ℕ) (priorities ranks : List ℤ) (lanes : List (VecDeque M Global)) (noted : BinaryHeap ℕ Global) (pending : List (Pending M)) : Type 0 where
  pub counted : len ≡ length pending
  pub ranking : IsRanking priorities ranks
  pub laid : IsLaid size ranks lanes (heap_items noted) pending
  pub ordered : IsHeap nat_cmp (heap_items noted)
  pub room : length lanes ≤ heap_capacity noted
