use Rattle.std.proofs.Common.{◌≡◌, map, take}
use Rattle.fp_source_types.specs.Resolved.{mark_of}
use Rattle.fp_source_types.proofs.resolving.marks_of.Given as goal

abbrev pub invariant-loop-value : goal.invariant-loop-value
invariant-loop-value l = l.marks ≡ map mark_of (take l.value-index l.values)
