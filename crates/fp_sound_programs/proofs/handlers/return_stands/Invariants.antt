use Rattle.std.proofs.Common.{◌≡◌, drop}
use Rattle.fp_tables.specs.Programs.{return_stands}
use Rattle.fp_sound_programs.proofs.Returning.{stands_after}
use Rattle.fp_sound_programs.proofs.handlers.return_stands.Given as goal

abbrev pub invariant-loop-act : goal.invariant-loop-act
invariant-loop-act l = return_stands l.wanted l.acts ≡ stands_after l.wanted l.returned (drop l.act-index l.acts)
