use Rattle.std.proofs.Common.{◌≡◌, drop}
use Rattle.std.specs.Prelude.{find}
use Rattle.fp_instances.specs.Ranges.{overlap}
use Rattle.fp_instances.specs.declared.ranges.IdRange.{IdRange}
use Rattle.fp_instances.proofs.overlaps.first_overlapping.Given as goal

abbrev pub invariant-loop-other : goal.invariant-loop-other
invariant-loop-other l = find (λ (q : IdRange). overlap q l.range) l.earlier ≡ find (λ (q : IdRange). overlap q l.range) (drop l.other-index l.earlier)
