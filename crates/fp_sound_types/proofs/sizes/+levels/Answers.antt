use Rattle.std.proofs.Common.{max, ap, ◌∙◌, arith}
use Rattle.std.specs.List.{fold}
use Rattle.fp_base.specs.declared.value.MemberValue.{MemberValue}
use Rattle.fp_tables.specs.Types.{levels}
use Rattle.fp_sound_types.proofs.Sized.{array_levels, struct_levels}
use Rattle.fp_sound_types.proofs.sizes.+levels.Goals as goal

pub levels-returns-in-Array : goal.levels-returns-in-Array
levels-returns-in-Array t c =
    let all = ap levels c.in-Array.is ∙ array_levels c.in-Array.items in
    let same = ap (fold (λ most value. max most (levels value)) 0) c.as_slice.ensures in
    omega (arith, all, same)

pub levels-returns-in-Struct : goal.levels-returns-in-Struct
levels-returns-in-Struct t c =
    let all = ap levels c.in-Struct.is ∙ struct_levels c.in-Struct.parts in
    let same = ap (fold (λ most (part : MemberValue). max most (levels part.value)) 0) (c.as_slice-in-Struct).ensures in
    omega (arith, all, same)
