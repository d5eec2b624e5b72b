use Rattle.fp_consts.proofs.Marked.{MarksFirst}
use Rattle.fp_consts.proofs.marking.marked.Given as goal

abbrev pub invariant-loop-item : goal.invariant-loop-item
invariant-loop-item l = MarksFirst l.table l.meanings l.items l.item-index l.marking
