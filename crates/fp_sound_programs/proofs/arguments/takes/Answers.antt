use Rattle.fp_tables.specs.Bound.{scope_of}
use Rattle.fp_sound_programs.proofs.Arguing.{unlike_counts}
use Rattle.fp_sound_programs.proofs.arguments.takes.Goals as goal

pub returns-then-formals-arguments : goal.returns-then-formals-arguments
returns-then-formals-arguments c = unlike_counts c.args.types.now (scope_of c.args.bound.now) c.args.formals.now c.args.arguments.now c.if-formals-arguments.true
