use Rattle.std.proofs.Common.{◌≡◌, min, take}
use Rattle.std.specs.List.{sum_by}
use Rattle.fp_base.specs.declared.value.MemberValue.{MemberValue}
use Rattle.fp_tables.specs.Types.{leaves}
use Rattle.fp_sound_types.proofs.sizes.+leaves.Given as goal

abbrev pub invariant-items_leaves-loop-item : goal.invariant-items_leaves-loop-item
invariant-items_leaves-loop-item l = l.count ≡ min (sum_by leaves (take l.item-index l.items)) 65537

abbrev pub invariant-parts_leaves-loop-part : goal.invariant-parts_leaves-loop-part
invariant-parts_leaves-loop-part l = l.count ≡ min (sum_by (λ (part : MemberValue). leaves part.value) (take l.part-index l.parts)) 65537
