use Rattle.std.proofs.Common.{take}
use Rattle.std.specs.Prelude.{Contains}
use Rattle.fp_gather.proofs.gathering.including.is_among.Given as goal

-- it isn't among those before
abbrev pub invariant-loop-other : goal.invariant-loop-other
invariant-loop-other l = Contains (take l.other-index l.names) l.name → ⊥
