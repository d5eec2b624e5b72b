use Rattle.fp_meaning.specs.Values.{values_in}
use Rattle.fp_consts.proofs.Arms.{Gathers}
use Rattle.fp_consts.proofs.examining.+examine.Given as goal

abbrev pub invariant-of_list-loop-item : goal.invariant-of_list-loop-item
invariant-of_list-loop-item l = Gathers l.table l.meanings l.items l.item-index l.next l.gathered

abbrev pub invariant-of_struct-loop-member : goal.invariant-of_struct-loop-member
invariant-of_struct-loop-member l = Gathers l.table l.meanings (values_in l.members) l.member-index l.next l.gathered
