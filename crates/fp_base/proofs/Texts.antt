-- The texts of arrays and structs from their items.
use Rattle.std.proofs.Common.{◌≡◌, List, [], ◌∷◌, ◌++◌, map, refl, ap, ◌∙◌}
use mathlib.Core.Former.{Count}
use Rattle.fp_base.specs.Rendered.{joined, value_text, item_texts, part_texts, part_text}
use Rattle.fp_base.specs.declared.value.Value.{Value, Array', Struct', Row_of-Value, more_of-Value, end_of-Value, items-the_row-Value, items_hidden-the_row-Value-0}
use Rattle.fp_base.specs.declared.value.Value.TheViews.{Array, Struct}
use Rattle.fp_base.specs.declared.value.Value.TheBlock as block
use Rattle.fp_base.specs.declared.value.MemberValue.{MemberValue}

abbrev pub items_of : Value → (n : Count) × Row_of-Value n
items_of (Array' _ row) = (_, row)
items_of _ = (_, end_of-Value)

abbrev pub parts_of : Value → (n : Count) × block.Row_of-MemberValue n
parts_of (Struct' _ row) = (_, row)
parts_of _ = (_, block.end_of-MemberValue)

item_texts_row : (n : _) (row : Row_of-Value n) → item_texts row ≡ map value_text (items-the_row-Value n row)
item_texts_row n end_of-Value = refl
item_texts_row n (more_of-Value v row) = ap (λ ss. value_text v ∷ ss) (item_texts_row _ row)

part_texts_row : (n : _) (row : block.Row_of-MemberValue n) → part_texts row ≡ map part_text (block.items-the_row-MemberValue n row)
part_texts_row n block.end_of-MemberValue = refl
part_texts_row n (block.more_of-MemberValue m v row) = ap (λ ss. part_text (record { name = m; value = v }) ∷ ss) (part_texts_row _ row)

pub array_text : (items : List Value) → value_text (Array items) ≡ 91 ∷ joined (map value_text items) ++ 93 ∷ []
array_text items =
    let row = items_of (Array items) in
    ap (λ ss. 91 ∷ joined ss ++ 93 ∷ []) (item_texts_row row.0 row.1 ∙ ap (map value_text) (items_hidden-the_row-Value-0 items))

pub struct_text : (parts : List MemberValue) → value_text (Struct parts) ≡ 123 ∷ joined (map part_text parts) ++ 125 ∷ []
struct_text parts =
    let row = parts_of (Struct parts) in
    ap (λ ss. 123 ∷ joined ss ++ 125 ∷ []) (part_texts_row row.0 row.1 ∙ ap (map part_text) (block.items_hidden-the_row-MemberValue-1 parts))
