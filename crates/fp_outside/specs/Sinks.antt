-- What a write says of what was written and of the count.
use Rattle.std.specs.Prelude.{ℕ, ◌≡◌, ◌<◌, ◌≤◌, List, ◌++◌, length, take, Option, Result, Ok, Err}
use Rattle.std.specs.Option.{option_map}
use Rattle.fp_outside.specs.Counts.{Rose}
use Rattle.fp_outside.specs.declared.sink.SinkFailed.{SinkFailed}

-- so many bytes of a piece were taken: at least one, where it has one
abbrev pub TakesFront : List ℕ → ℕ → Type 0
TakesFront piece taken = (taken ≤ length piece) × (0 < length piece → 0 < taken)

-- what stands written after an answer
abbrev pub told_after : Result ℕ SinkFailed → List ℕ → Option (List ℕ) → Option (List ℕ)
told_after (Ok taken) piece told = option_map (λ written. written ++ take taken piece) told
told_after (Err failed) piece told = told

-- the count of faults rises with a failure, and else stays
abbrev pub CountsFailure : Result ℕ SinkFailed → ℕ → ℕ → Type 0
CountsFailure (Ok taken) before now = now ≡ before
CountsFailure (Err failed) before now = Rose before now
