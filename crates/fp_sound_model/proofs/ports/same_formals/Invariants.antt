use Rattle.std.proofs.Common.{◌≡◌, length}
use Rattle.std.specs.Slice.Iter.{iter_rest}
use Rattle.std.specs.Iterator.Adapters.{zip_first, zip_second}
use Rattle.fp_base.specs.Same.{same_list}
use Rattle.fp_tables.specs.Components.{same_formal}
use Rattle.fp_sound_model.proofs.ports.same_formals.Given as goal

abbrev pub invariant-loop-one : goal.invariant-loop-one
invariant-loop-one l = record {
  same : same_list same_formal l.left l.right ≡ same_list same_formal (iter_rest (zip_first l.one-iterator)) (iter_rest (zip_second l.one-iterator));
  long : length (iter_rest (zip_first l.one-iterator)) ≡ length (iter_rest (zip_second l.one-iterator));
}
