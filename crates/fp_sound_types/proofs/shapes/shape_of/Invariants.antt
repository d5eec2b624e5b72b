use Rattle.std.proofs.Common.{◌≡◌, ◌+◌, ◌-◌, length}
use Rattle.fp_tables.specs.Types.{shape, shape_by}
use Rattle.fp_sound_types.proofs.shapes.shape_of.Given as goal

abbrev pub invariant-loop : goal.invariant-loop
invariant-loop l = shape_by l.types (length l.types + 1 - l.counter) l.target ≡ shape l.fn.types l.fn.kind
