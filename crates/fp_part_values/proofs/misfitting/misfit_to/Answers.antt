use Rattle.std.proofs.Common.{None, Some, sym, subst}
use Rattle.std.specs.Option.{option_copied}
use Rattle.fp_base.proofs.Calculus.{least_none}
use Rattle.fp_base.specs.Least.{IsLeast}
use Rattle.fp_part_values.specs.Tested.{MisfitsIf}
use Rattle.fp_part_values.proofs.misfitting.misfit_to.Goals as goal

pub returns-in-Some : goal.returns-in-Some
returns-in-Some c = subst (λ o. IsLeast (MisfitsIf c.args.types.now c.args.place (Some c.args.kind) (option_copied o)) c.misfit.result) (sym c.in-Some.is) c.misfit.ensures

pub returns-in-None : goal.returns-in-None
returns-in-None c = subst (λ o. IsLeast (MisfitsIf c.args.types.now c.args.place (Some c.args.kind) (option_copied o)) None) (sym c.in-None.is) (least_none (λ f b. b))
