use Rattle.std.proofs.Common.{ap, ◌∙◌}
use Rattle.std.specs.Prelude.{List, find}
use Rattle.fp_instances.specs.Ranges.{overlap}
use Rattle.fp_instances.specs.declared.ranges.IdRange.{IdRange}
use Rattle.fp_instances.proofs.Apart.{fault_least}
use Rattle.fp_instances.proofs.overlaps.fault_at.Goals as goal

pub returns : goal.returns
returns c r at =
    fault_least c.args.ranges.now c.args.at r c.range_at-range.result c.first_overlapping-earlier.result c.refusal_of.result c.range_at-range.ensures at
    (c.first_overlapping-earlier.ensures ∙ ap (λ (rs : List IdRange). find (λ (q : IdRange). overlap q c.range_at-range.result) rs) c.ranges_before.ensures) c.refusal_of.ensures
