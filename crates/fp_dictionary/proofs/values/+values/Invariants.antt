use Rattle.std.proofs.Common.{◌≡◌, map, take}
use Rattle.serde_json.specs.Data.{no_members}
use Rattle.serde_json.specs.View.{view}
use Rattle.fp_dictionary.specs.Objects.{held, with_entries}
use Rattle.fp_dictionary.specs.Values.{value_data, part_entry}
use Rattle.fp_dictionary.proofs.values.+values.Given as goal

abbrev pub invariant-items_value-loop-item : goal.invariant-items_value-loop-item
invariant-items_value-loop-item l = map view l.list.items ≡ map value_data (take l.item-index l.items)

abbrev pub invariant-parts_value-loop-part : goal.invariant-parts_value-loop-part
invariant-parts_value-loop-part l = held l.object ≡ with_entries (map part_entry (take l.part-index l.parts)) no_members
