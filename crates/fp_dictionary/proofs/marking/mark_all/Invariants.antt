use Rattle.std.proofs.Common.{◌≡◌, drop}
use Rattle.fp_dictionary.specs.Marks.{marks_of, with_marks}
use Rattle.fp_dictionary.proofs.marking.mark_all.Given as goal

abbrev pub invariant-loop-kind : goal.invariant-loop-kind
invariant-loop-kind l = with_marks (marks_of l.marks) (drop l.kind-index l.kinds) ≡ with_marks (marks_of l.initial.marks) l.kinds
