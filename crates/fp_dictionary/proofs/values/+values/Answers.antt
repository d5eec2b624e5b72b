use Rattle.std.proofs.Common.{◌+◌, take, map, sym, ap, ◌∙◌, arith}
use Rattle.std.proofs.lemmas.List.{take_all}
use Rattle.serde_json.specs.Data.{object, array, no_members}
use Rattle.serde_json.specs.View.{items_of}
use Rattle.serde_json.proofs.Views.{view-Array}
use Rattle.fp_base.proofs.Options.{if_ok_then}
use Rattle.fp_dictionary.specs.Objects.{held, with_entries, list_of, object_of}
use Rattle.fp_dictionary.specs.Values.{value_data, part_entry}
use Rattle.fp_dictionary.proofs.DescriptorEntries.{entry_more, next_item}
use Rattle.fp_dictionary.proofs.Given.{array_data, struct_data}
use Rattle.fp_dictionary.proofs.values.+values.Goals as goal

pub value_of-returns-in-Array : goal.value_of-returns-in-Array
value_of-returns-in-Array t c =
    let is = ap value_data c.in-Array.is ∙ array_data c.in-Array.items in
    if_ok_then c.items_value.result _ _ (λ json e. e ∙ ap (λ xs. list_of (map value_data xs)) c.as_slice.ensures ∙ sym is) c.items_value.ensures

pub value_of-returns-in-Struct : goal.value_of-returns-in-Struct
value_of-returns-in-Struct t c =
    let is = ap value_data c.in-Struct.is ∙ struct_data c.in-Struct.parts in
    if_ok_then c.parts_value.result _ _ (λ json e. e ∙ ap (λ xs. object_of (map part_entry xs)) c.as_slice-in-Struct.ensures ∙ sym is) c.parts_value.ensures

pub items_value-returns : goal.items_value-returns
items_value-returns t c =
    view-Array c.loop-item.list ∙ ap (λ ds. array (items_of ds)) c.loop-item.invariant ∙ ap (λ xs. list_of (map value_data xs)) (take_all c.loop-item.item-index c.args.items.now (omega arith))

pub parts_value-loop-part-preserved : goal.parts_value-loop-part-preserved
parts_value-loop-part-preserved t c =
    let parts = c.args.parts.now in
    let i = c.loop-part.part-index in
    let part = c.part-item.result in
    entry_more part_entry (take i parts) (take (i + 1) parts) part (held c.loop-part.object) (held c.put.new.self) c.as_str.result.now _ (next_item parts i part _ (omega arith) c.part-item.is) c.loop-part.invariant c.as_str.ensures c.in_ok-value.ensures c.in_ok-put.ensures

pub parts_value-returns : goal.parts_value-returns
parts_value-returns t c =
    c.into_value.ensures ∙ ap object (c.loop-part.invariant ∙ ap (λ xs. with_entries (map part_entry xs) no_members) (take_all c.loop-part.part-index c.args.parts.now (omega arith)))
