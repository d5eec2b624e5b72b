use Rattle.std.proofs.Common.{◌≡◌, flat_map, take}
use Rattle.fp_tables.specs.declared.kind.Field.{Field}
use Rattle.fp_source_types.specs.Used.{number_in}
use Rattle.fp_source_types.proofs.ordering.numbers_in.Given as goal

abbrev pub invariant-loop-field : goal.invariant-loop-field
invariant-loop-field l = l.row ≡ flat_map (λ (f : Field). number_in f.kind) (take l.field-index l.fields)
