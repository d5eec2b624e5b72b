use Rattle.std.proofs.Common.{◌≡◌, length}
use Rattle.std.specs.Slice.Iter.{iter_rest}
use Rattle.std.specs.Iterator.Adapters.{zip_first, zip_second}
use Rattle.fp_running.specs.Closing.{are_idle}
use Rattle.fp_running.proofs.closing.all_idle.Given as goal

abbrev pub invariant-loop-instance : goal.invariant-loop-instance
invariant-loop-instance l = record {
  same : are_idle l.tables l.instances l.cells ≡ are_idle l.tables (iter_rest (zip_first l.instance-iterator)) (iter_rest (zip_second l.instance-iterator));
  long : length (iter_rest (zip_second l.instance-iterator)) ≡ length (iter_rest (zip_first l.instance-iterator));
}
