use Rattle.std.proofs.Common.{◌≡◌, map, take}
use Rattle.fp_tables.specs.declared.program.Caller.{Caller}
use Rattle.fp_sound_programs.proofs.repeats.names_of.Given as goal

abbrev pub invariant-loop-caller : goal.invariant-loop-caller
invariant-loop-caller l = map (λ name. name.now) l.names.items ≡ map (λ (caller : Caller). caller.name) (take l.caller-index l.callers)
