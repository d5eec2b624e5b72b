use Rattle.std.proofs.Common.{◌≡◌, length}
use Rattle.std.specs.Slice.Iter.{iter_rest}
use Rattle.std.specs.Iterator.Adapters.{zip_first, zip_second}
use Rattle.fp_tables.specs.Arguments.{kinds_of, arguments_suit}
use Rattle.fp_tables.specs.Bound.{scope_of}
use Rattle.fp_sound_programs.proofs.arguments.takes.Given as goal

abbrev pub invariant-loop-formal : goal.invariant-loop-formal
invariant-loop-formal l = record {
  same : arguments_suit l.types (scope_of l.bound) (kinds_of l.formals) l.arguments
      ≡ arguments_suit l.types (scope_of l.bound) (kinds_of (iter_rest (zip_first l.formal-iterator))) (iter_rest (zip_second l.formal-iterator));
  long : length (iter_rest (zip_first l.formal-iterator)) ≡ length (iter_rest (zip_second l.formal-iterator));
}
