use Rattle.std.proofs.Common.{◌≡◌, true, take}
use Rattle.std.specs.List.{list_all}
use Rattle.fp_tables.specs.Programs.{caller_acts_suit}
use Rattle.fp_tables.specs.declared.program.Caller.{Caller}
use Rattle.fp_sound_programs.proofs.callers.callers_suit.Given as goal

abbrev pub invariant-loop-caller : goal.invariant-loop-caller
invariant-loop-caller l = list_all (λ (caller : Caller). caller_acts_suit l.tables caller.acts) (take l.caller-index l.callers) ≡ true
