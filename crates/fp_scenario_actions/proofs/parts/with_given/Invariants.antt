use Rattle.std.proofs.Common.{◌≡◌, take}
use Rattle.fp_scenario_actions.specs.Wanted.{with_given}
use Rattle.fp_scenario_actions.proofs.parts.with_given.Given as goal

abbrev pub invariant-loop-part : goal.invariant-loop-part
invariant-loop-part l = l.row ≡ with_given l.given (take l.part-index l.parts)
