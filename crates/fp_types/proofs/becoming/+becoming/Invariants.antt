use Rattle.std.proofs.Common.{◌+◌, ◌*◌, take}
use Rattle.fp_types.specs.Converting.{opened, EachBecomes, MembersBecome, BecomesInEach}
use Rattle.fp_types.proofs.becoming.+becoming.Given as goal

abbrev pub decreases-becomes : goal.decreases-becomes
decreases-becomes l = l.depth * 10

abbrev pub decreases-each : goal.decreases-each
decreases-each l = l.depth * 10 + 1

abbrev pub decreases-part_by_part : goal.decreases-part_by_part
decreases-part_by_part l = l.depth * 10 + 2

abbrev pub decreases-in_array : goal.decreases-in_array
decreases-in_array l = l.depth * 10 + 3

abbrev pub decreases-in_member : goal.decreases-in_member
decreases-in_member l = l.depth * 10 + 4

abbrev pub decreases-in_each_member : goal.decreases-in_each_member
decreases-in_each_member l = l.depth * 10 + 5

abbrev pub decreases-in_named : goal.decreases-in_named
decreases-in_named l = l.depth * 10 + 5

abbrev pub decreases-members : goal.decreases-members
decreases-members l = l.depth * 10 + 6

abbrev pub decreases-in_struct : goal.decreases-in_struct
decreases-in_struct l = l.depth * 10 + 7

abbrev pub decreases-into : goal.decreases-into
decreases-into l = l.depth * 10 + 8

abbrev pub invariant-each-loop-item : goal.invariant-each-loop-item
invariant-each-loop-item l = EachBecomes l.types l.kind (take l.item-index l.items) l.made

abbrev pub invariant-members-loop-part : goal.invariant-members-loop-part
invariant-members-loop-part l = MembersBecome l.types l.fields (take l.part-index l.parts) l.given

abbrev pub invariant-in_each_member-loop-field : goal.invariant-in_each_member-loop-field
invariant-in_each_member-loop-field l = BecomesInEach l.types (opened l.value) (take l.field-index l.fields) l.made
