use Rattle.std.proofs.Common.{◌≡◌}
use Rattle.fp_dictionary.specs.Marks.{marks_of, rounds_read}
use Rattle.fp_dictionary.proofs.reaching.read_all.Given as goal

abbrev pub invariant-loop-round : goal.invariant-loop-round
invariant-loop-round l = marks_of l.marks ≡ rounds_read l.types (marks_of l.initial.marks) l.round
