use Rattle.std.proofs.Common.{◌≡◌}
use Rattle.fp_source_parts.proofs.External.{outside_first}
use Rattle.fp_source_parts.proofs.outside.externals_in.Given as goal

abbrev pub invariant-loop-item : goal.invariant-loop-item
invariant-loop-item l = l.externals.items ≡ outside_first l.items l.item-index
