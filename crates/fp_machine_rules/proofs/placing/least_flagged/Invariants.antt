use Rattle.fp_base.specs.Least.{InFirst, IsLeast}
use Rattle.fp_machine_rules.specs.Broken.{IsFlaggedAt}
use Rattle.fp_machine_rules.proofs.placing.least_flagged.Given as goal

abbrev pub invariant-all : goal.invariant-all
invariant-all l = IsLeast (InFirst l.at (IsFlaggedAt l.rule l.flags) l.places) l.first
