use Rattle.fp_base.specs.Least.{InFirst, IsLeast}
use Rattle.fp_component_rules.specs.Flagged.{FlaggedLink}
use Rattle.fp_component_rules.proofs.cycles.least_flagged.Given as goal

abbrev pub invariant-loop-at : goal.invariant-loop-at
invariant-loop-at l = IsLeast (InFirst l.at (FlaggedLink l.flags l.rule) l.links) l.least
