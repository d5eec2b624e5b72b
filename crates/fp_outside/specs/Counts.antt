-- Counts that never fall, kept in 64 bits.
use Rattle.std.specs.Prelude.{ℕ, ◌≡◌, ◌+◌, ◌-◌, ◌^◌, ◌<◌, ◌⊎◌, min}

-- from which a count can't rise
abbrev pub last_count : ℕ
last_count = 2 ^ 64 - 1

-- a count rose, or stands at its last value
abbrev pub Rose : ℕ → ℕ → Type 0
Rose before now = (before < now) ⊎ ((before ≡ last_count) × (now ≡ before))

-- the number of the call that follows so many calls; the last number is that of every later call too
abbrev pub next_call : ℕ → ℕ
next_call calls = min (calls + 1) last_count
