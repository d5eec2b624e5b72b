-- What a sink in memory is.
use Rattle.std.specs.Prelude.{ℕ, List}

pub record SinkState : Type 0 where
  pub written : List ℕ
  -- it takes at most so many bytes at each call, and none past the room
  pub most : ℕ
  pub room : ℕ
  -- the numbers of the writes that fail
  pub failing : List ℕ
  -- how many writes there were
  pub writes : ℕ
  pub faults : ℕ
