use Rattle.fp_base.specs.Least.{InFirst, IsLeast}
use Rattle.fp_types.specs.Faults.{IsBadDefault}
use Rattle.fp_types.proofs.misfits.bad_defaults.Given as goal

abbrev pub invariant-all : goal.invariant-all
invariant-all l = IsLeast (InFirst l.number (IsBadDefault l.types) l.places) l.first
