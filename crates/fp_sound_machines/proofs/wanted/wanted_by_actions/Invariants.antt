use Rattle.std.proofs.Common.{◌≡◌, Option, take}
use Rattle.fp_tables.specs.Machines.{actions_are_given}
use Rattle.fp_sound_machines.specs.Wanted.{meets}
use Rattle.fp_tables.specs.declared.kind.Kind.{Kind}
use Rattle.fp_sound_machines.proofs.wanted.wanted_by_actions.Given as goal

abbrev pub invariant-loop-action : goal.invariant-loop-action
invariant-loop-action l = (given : Option Kind) → meets l.types given l.wanted ≡ actions_are_given l.types l.machine given (take l.action-index l.actions)
