use Rattle.std.proofs.Common.{◌≡◌, true, take, length}
use Rattle.std.specs.List.{list_all}
use Rattle.std.specs.Slice.Iter.{iter_rest}
use Rattle.std.specs.Iterator.Adapters.{zip_first, zip_second}
use Rattle.fp_tables.specs.Types.{has}
use Rattle.fp_sound_types.specs.Shapes.{meant}
use Rattle.fp_tables.specs.Lists.{all_beside}
use Rattle.fp_tables.specs.Types.{part_has}
use Rattle.fp_sound_types.proofs.values.+has.Given as goal

abbrev pub invariant-items_have-loop-item : goal.invariant-items_have-loop-item
invariant-items_have-loop-item l = list_all (has l.types (meant l.shape)) (take l.item-index l.items) ≡ true

abbrev pub invariant-parts_have-loop-part : goal.invariant-parts_have-loop-part
invariant-parts_have-loop-part l = record {
  same : all_beside (part_has l.types) l.fields l.parts ≡ all_beside (part_has l.types) (iter_rest (zip_second l.part-iterator)) (iter_rest (zip_first l.part-iterator));
  long : length (iter_rest (zip_second l.part-iterator)) ≡ length (iter_rest (zip_first l.part-iterator));
}
