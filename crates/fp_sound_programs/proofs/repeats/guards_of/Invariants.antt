use Rattle.std.proofs.Common.{◌≡◌, map, take}
use Rattle.fp_tables.specs.declared.program.Answers.{Answers}
use Rattle.fp_sound_programs.proofs.repeats.guards_of.Given as goal

abbrev pub invariant-loop-given : goal.invariant-loop-given
invariant-loop-given l = l.guards.items ≡ map (λ (given : Answers). (given.instance, given.running, given.guard)) (take l.given-index l.answers)
