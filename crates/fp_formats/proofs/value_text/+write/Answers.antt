use Rattle.std.proofs.Common.{map, ap, ◌∙◌, arith}
use Rattle.std.proofs.lemmas.Grind.{common_steps}
use Rattle.fp_base.specs.Rendered.{joined, value_text, part_text}
use Rattle.fp_base.proofs.Texts.{array_text, struct_text}
use Rattle.fp_formats.proofs.value_text.+write.Goals as goal

pub write_value-returns-in_ok-write_items-in-Array : goal.write_value-returns-in_ok-write_items-in-Array
write_value-returns-in_ok-write_items-in-Array t c =
    let e = ap value_text (c.in-Array).is ∙ array_text (c.in-Array).items in
    let r = ap (λ ss. joined (map value_text ss)) c.as_slice.ensures in
    grind (arith, common_steps, e, r)

pub write_value-returns-in_ok-write_parts-in-Struct : goal.write_value-returns-in_ok-write_parts-in-Struct
write_value-returns-in_ok-write_parts-in-Struct t c =
    let e = ap value_text (c.in-Struct).is ∙ struct_text (c.in-Struct).parts in
    let r = ap (λ ss. joined (map part_text ss)) (c.as_slice-in-Struct).ensures in
    grind (arith, common_steps, e, r)
