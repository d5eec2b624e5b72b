use Rattle.std.proofs.Common.{take}
use Rattle.fp_actor.specs.Found.{FindsHookSignals}
use Rattle.fp_actor.proofs.handlers.hook_signals_of.Given as goal

abbrev pub invariant-loop-at : goal.invariant-loop-at
invariant-loop-at l = FindsHookSignals (take l.at l.handlers) l.signals
