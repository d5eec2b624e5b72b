use Rattle.std.proofs.Common.{Option, None, sym, subst}
use Rattle.std.specs.Option.{option_copied}
use Rattle.fp_base.proofs.Calculus.{least_none}
use Rattle.fp_base.specs.Least.{IsLeast}
use Rattle.fp_tables.specs.declared.kind.Kind.{Kind}
use Rattle.fp_part_values.specs.Tested.{MisfitsIf}
use Rattle.fp_part_values.proofs.misfitting.misfit_of.Goals as goal

pub returns-in-Some : goal.returns-in-Some
returns-in-Some c = subst (λ (k : Option Kind). IsLeast (MisfitsIf c.args.types.now c.args.place k (option_copied c.args.value)) c.misfit_to.result) (sym c.in-Some.is) c.misfit_to.ensures

pub returns-in-None : goal.returns-in-None
returns-in-None c = subst (λ (k : Option Kind). IsLeast (MisfitsIf c.args.types.now c.args.place k (option_copied c.args.value)) None) (sym c.in-None.is) (least_none (λ f b. b))
