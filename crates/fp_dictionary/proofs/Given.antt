-- What arrays and structs are from their items.
use Rattle.std.proofs.Common.{◌≡◌, List, map, refl, ap, ◌∙◌}
use Rattle.fp_base.specs.declared.value.Value.{Value, Row_of-Value, more_of-Value, end_of-Value, items-the_row-Value, items_hidden-the_row-Value-0}
use Rattle.fp_base.specs.declared.value.Value.TheViews.{Array, Struct}
use Rattle.fp_base.specs.declared.value.Value.TheBlock as block
use Rattle.fp_base.specs.declared.value.MemberValue.{MemberValue}
use Rattle.fp_base.proofs.Texts.{items_of as items_in, parts_of}
use Rattle.serde_json.specs.Data.{Members, no_members, array, object, item}
use Rattle.serde_json.specs.View.{items_of}
use Rattle.fp_dictionary.specs.Objects.{with_entries, object_of, list_of}
use Rattle.fp_dictionary.specs.Values.{value_data, items_data, parts_data, part_entry}

items_row : (n : _) (row : Row_of-Value n) → items_data row ≡ items_of (map value_data (items-the_row-Value n row))
items_row n end_of-Value = refl
items_row n (more_of-Value v row) = ap (item (value_data v)) (items_row _ row)

parts_row : (n : _) (row : block.Row_of-MemberValue n) (ms : Members) → parts_data row ms ≡ with_entries (map part_entry (block.items-the_row-MemberValue n row)) ms
parts_row n block.end_of-MemberValue ms = refl
parts_row n (block.more_of-MemberValue m v row) ms = parts_row _ row _

pub array_data : (items : List Value) → value_data (Array items) ≡ list_of (map value_data items)
array_data items =
    let row = items_in (Array items) in
    ap array (items_row row.0 row.1 ∙ ap (λ vs. items_of (map value_data vs)) (items_hidden-the_row-Value-0 items))

pub struct_data : (parts : List MemberValue) → value_data (Struct parts) ≡ object_of (map part_entry parts)
struct_data parts =
    let row = parts_of (Struct parts) in
    ap object (parts_row row.0 row.1 no_members ∙ ap (λ ps. with_entries (map part_entry ps) no_members) (block.items_hidden-the_row-MemberValue-1 parts))
