use Rattle.fp_type_formats.proofs.sorts.+ends_other.Given as goal

abbrev pub decreases-ends_other : goal.decreases-ends_other
decreases-ends_other l = l.left
