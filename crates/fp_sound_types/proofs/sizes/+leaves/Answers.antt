use Rattle.std.proofs.Common.{ap, ◌∙◌, arith}
use Rattle.std.specs.List.{sum_by}
use Rattle.fp_base.specs.declared.value.MemberValue.{MemberValue}
use Rattle.fp_tables.specs.Types.{leaves}
use Rattle.fp_sound_types.proofs.Sized.{array_leaves, struct_leaves}
use Rattle.fp_sound_types.proofs.sizes.+leaves.Goals as goal

pub leaves-returns-in-Array : goal.leaves-returns-in-Array
leaves-returns-in-Array t c =
    let all = ap leaves c.in-Array.is ∙ array_leaves c.in-Array.items in
    let same = ap (sum_by leaves) c.as_slice.ensures in
    omega (arith, all, same)

pub leaves-returns-in-Struct : goal.leaves-returns-in-Struct
leaves-returns-in-Struct t c =
    let all = ap leaves c.in-Struct.is ∙ struct_leaves c.in-Struct.parts in
    let same = ap (sum_by (λ (part : MemberValue). leaves part.value)) (c.as_slice-in-Struct).ensures in
    omega (arith, all, same)
