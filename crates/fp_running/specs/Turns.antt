-- What a turn came to.
use Rattle.std.specs.Prelude.{Bool, true, false}
use Rattle.fp_running.specs.declared.turn.Turn.{Turn}
use Rattle.fp_running.specs.declared.turn.Turn.TheVariants.{Stepped, AtLimit}

abbrev pub is_step : Turn → Bool
is_step (Stepped i stamp) = true
is_step _ = false

-- a step, but above the limit
abbrev pub is_above : Turn → Bool
is_above AtLimit = true
is_above _ = false
