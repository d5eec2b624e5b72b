use Rattle.fp_base.specs.Least.{InFirst, IsLeast}
use Rattle.fp_type_sizes.specs.Large.{IsTypeLarge}
use Rattle.fp_type_sizes.proofs.large.large_types.Given as goal

abbrev pub invariant-all : goal.invariant-all
invariant-all l = IsLeast (InFirst l.number (IsTypeLarge l.types) l.places) l.first
