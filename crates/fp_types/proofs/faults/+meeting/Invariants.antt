use Rattle.std.proofs.Common.{◌≡◌, ℕ, ◌+◌, ◌*◌, ◌<◌, slice_get, Some}
use Rattle.fp_base.specs.declared.value.Value.{Value}
use Rattle.fp_base.specs.declared.value.MemberValue.{MemberValue}
use Rattle.fp_tables.specs.declared.kind.Field.{Field}
use Rattle.fp_types.specs.Converting.{opened, of_kind, member}
use Rattle.fp_types.specs.Making.{Enough, EnoughEach}
use Rattle.fp_types.specs.Faults.{Meets}
use Rattle.fp_types.specs.Meeting.{test_of, MeetsNamed}
use Rattle.fp_types.proofs.faults.+meeting.Given as goal

abbrev pub decreases-meets : goal.decreases-meets
decreases-meets l = l.depth * 10

abbrev pub decreases-in_each : goal.decreases-in_each
decreases-in_each l = l.depth * 10 + 1

abbrev pub decreases-in_items : goal.decreases-in_items
decreases-in_items l = l.depth * 10 + 2

abbrev pub decreases-in_array : goal.decreases-in_array
decreases-in_array l = l.depth * 10 + 3

abbrev pub decreases-in_sized : goal.decreases-in_sized
decreases-in_sized l = l.depth * 10 + 4

abbrev pub decreases-in_member : goal.decreases-in_member
decreases-in_member l = l.depth * 10 + 5

abbrev pub decreases-in_members : goal.decreases-in_members
decreases-in_members l = l.depth * 10 + 6

abbrev pub decreases-in_named : goal.decreases-in_named
decreases-in_named l = l.depth * 10 + 6

abbrev pub decreases-in_parts : goal.decreases-in_parts
decreases-in_parts l = l.depth * 10 + 7

abbrev pub decreases-in_struct : goal.decreases-in_struct
decreases-in_struct l = l.depth * 10 + 8

abbrev pub decreases-meets_at : goal.decreases-meets_at
decreases-meets_at l = l.depth * 10 + 9

abbrev pub invariant-in_each-loop-item : goal.invariant-in_each-loop-item
invariant-in_each-loop-item l = (j : ℕ) (x : Value) → j < l.item-index → slice_get l.items j ≡ Some x → Enough l.types l.depth l.kind → Meets l.types (test_of l.sought) (opened x) (of_kind l.kind) → ⊥

abbrev pub invariant-in_parts-loop-part : goal.invariant-in_parts-loop-part
invariant-in_parts-loop-part l = (j : ℕ) (x : MemberValue) → j < l.part-index → slice_get l.parts j ≡ Some x → EnoughEach l.types l.depth l.fields → MeetsNamed l.types (test_of l.sought) l.fields x → ⊥

abbrev pub invariant-in_members-loop-field : goal.invariant-in_members-loop-field
invariant-in_members-loop-field l = (j : ℕ) (x : Field) → j < l.field-index → slice_get l.fields j ≡ Some x → EnoughEach l.types l.depth l.fields → Meets l.types (test_of l.sought) (opened l.value) (member x) → ⊥
