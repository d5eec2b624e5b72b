-- The pending calls of an instance, and how a queue holds them.
use Rattle.std.specs.Prelude.{◌≡◌, ◌<◌, ◌≤◌, ℕ, ℤ, List, [], ◌∷◌, map, Option, Some}
use Rattle.std.specs.Option.{option_map_or}
use Rattle.fp_events.specs.Instance.{Pending}
use Rattle.fp_events.specs.Queue.{next_call, without}
use Rattle.fp_queue.specs.Contents.{Contents}
use Rattle.fp_queue.specs.declared.pending.Pending.{Pending as Queued}
use Rattle.fp_cell.specs.declared.calls.Call.{Call}

-- how many may be pending, the priorities that there are, the pending calls in order of arrival, and how many puts there were
pub record Waiting : Type 0 where
  pub size : ℕ
  pub priorities : List ℤ
  pub pending : List Pending
  pub puts : ℕ

abbrev pub pending_of : Queued Call → Pending
pending_of p = record { number = p.item.number; priority = p.priority; point = p.item.point; with = p.item.with }

-- the numbers rise from above low on and aren't above high, and the values stand twice
abbrev pub AreNumbered : ℕ → ℕ → List (Queued Call) → Type 0
AreNumbered low high [] = low ≤ high
AreNumbered low high (p ∷ ps) = (low < p.item.number) × (p.item.again ≡ p.item.with) × AreNumbered p.item.number high ps

-- an instance without a queue has size 0
abbrev pub size_of : Option (Contents Call) → ℕ
size_of q = option_map_or (λ (c : Contents Call). c.size) q 0

abbrev pub priorities_of : Option (Contents Call) → List ℤ
priorities_of q = option_map_or (λ c. c.priorities) q []

abbrev pub calls_of : Option (Contents Call) → List (Queued Call)
calls_of q = option_map_or (λ c. c.pending) q []

abbrev pub waiting : ℕ → ℕ → Option (Contents Call) → Waiting
waiting size puts queue = record { size = size; priorities = priorities_of queue; pending = map pending_of (calls_of queue); puts = puts }

-- what the fields of pending calls keep
pub record AreHeld (size puts : ℕ) (queue : Option (Contents Call)) : Type 0 where
  pub of_size : size_of queue ≡ size
  pub numbered : AreNumbered 0 puts (calls_of queue)

-- the call is the next one, its values stand twice, and the others are left
pub record IsTaken (pending : List Pending) (c : Call) (rest : List Pending) : Type 0 where
  pub next : Pending
  pub is_next : next_call pending ≡ Some next
  pub number : c.number ≡ next.number
  pub point : c.point ≡ next.point
  pub with : c.with ≡ next.with
  pub again : c.again ≡ next.with
  pub others : rest ≡ without next.number pending
