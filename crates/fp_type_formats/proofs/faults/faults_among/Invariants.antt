use Rattle.fp_base.specs.Least.{InFirst, IsLeast}
use Rattle.fp_type_formats.specs.Broken.{BrokenByItem}
use Rattle.fp_type_formats.proofs.faults.faults_among.Given as goal

abbrev pub invariant-loop-item : goal.invariant-loop-item
invariant-loop-item l = IsLeast (InFirst l.item-index (λ k. BrokenByItem l.items) l.items) l.first
