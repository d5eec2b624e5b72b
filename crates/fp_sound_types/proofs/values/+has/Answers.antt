use Rattle.std.proofs.Common.{◌≡◌, ◌∙◌, ◌&&◌, Bool, ℕ, eqb, length, sym, ap, ap₂, List, arith}
use Rattle.std.proofs.lemmas.Bool.Decides.{nat_tests}
use Rattle.std.specs.List.{list_all}
use Rattle.fp_base.specs.declared.value.Value.{Value}
use Rattle.fp_base.specs.declared.value.MemberValue.{MemberValue}
use Rattle.fp_tables.specs.Types.{Shape, has, shape}
use Rattle.fp_sound_types.specs.Shapes.{meant}
use Rattle.fp_tables.specs.Lists.{all_beside}
use Rattle.fp_tables.specs.Types.{part_has}
use Rattle.fp_sound_types.specs.declared.shapes.Shape.{Shape as Read}
use Rattle.fp_tables.specs.declared.kind.TypeDef.{TypeDef}
use Rattle.fp_tables.proofs.Shaped.{array_has, struct_has}
use Rattle.fp_sound_types.proofs.values.+has.Goals as goal

abbrev has_read : List TypeDef → Read → Value → Bool
has_read types s v = has types (meant s) v

is_size : (m n l : ℕ) (b : Bool) → l ≡ m → l ≡ n → b ≡ (eqb m n && b)
is_size m n l b e f = grind (arith, nat_tests)

not_size : (m n l : ℕ) (b : Bool) → l ≡ m → (l ≡ n → ⊥) → eqb l n ≡ (eqb m n && b)
not_size m n l b e f = grind (arith, nat_tests)

pub has_shape-returns-then-len-size : goal.has_shape-returns-then-len-size
has_shape-returns-then-len-size t c =
    let types = c.args.types.now in
    let a = c.in-Array-Array in
    c.items_have.ensures ∙ ap₂ (λ (s : Shape) (vs : List Value). list_all (has types s) vs) c.shape_of-element.ensures c.as_slice.ensures
    ∙ is_size (length a.items) a.size c.len.result _ c.len.ensures c.if-len-size.true
    ∙ sym (array_has types a.size a.element a.items)
    ∙ sym (ap₂ (has_read types) a.is-0 a.is-1)

pub has_shape-returns-else-len-size : goal.has_shape-returns-else-len-size
has_shape-returns-else-len-size t c =
    let types = c.args.types.now in
    let a = c.in-Array-Array in
    not_size (length a.items) a.size c.len.result (list_all (has types (shape types a.element)) a.items) c.len.ensures c.if-len-size.false
    ∙ sym (array_has types a.size a.element a.items)
    ∙ sym (ap₂ (has_read types) a.is-0 a.is-1)

pub has_shape-returns-in-Struct-Struct : goal.has_shape-returns-in-Struct-Struct
has_shape-returns-in-Struct-Struct t c =
    let types = c.args.types.now in
    let a = c.in-Struct-Struct in
    c.parts_have.ensures ∙ ap (λ (ps : List MemberValue). all_beside (part_has types) a.fields.now ps) (c.as_slice-in-Struct-Struct).ensures
    ∙ sym (struct_has types a.fields.now a.parts)
    ∙ sym (ap₂ (has_read types) a.is-0 a.is-1)
