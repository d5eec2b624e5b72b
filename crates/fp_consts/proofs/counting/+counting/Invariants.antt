use Rattle.std.proofs.Common.{take}
use Rattle.fp_meaning.specs.Values.{values_in}
use Rattle.fp_consts.proofs.Counted.{PastAll}
use Rattle.fp_consts.proofs.counting.+counting.Given as goal

abbrev pub invariant-past_items-loop-item : goal.invariant-past_items-loop-item
invariant-past_items-loop-item l = PastAll (take l.item-index l.items) l.limit l.next l.reached

abbrev pub invariant-past_members-loop-member : goal.invariant-past_members-loop-member
invariant-past_members-loop-member l = PastAll (take l.member-index (values_in l.members)) l.limit l.next l.reached
