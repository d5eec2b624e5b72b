use Rattle.std.proofs.Common.{Some, sym, subst}
use Rattle.fp_base.specs.Least.{IsLeast}
use Rattle.fp_base.specs.declared.refusal.Refusal.{Refusal}
use Rattle.fp_meaning.specs.Broken.{NamesBroken}
use Rattle.fp_model.proofs.Stopping.{least_there}
use Rattle.fp_model.proofs.naming.least_name.Goals as goal

pub returns-in-Ok : goal.returns-in-Ok
returns-in-Ok c =
    subst (λ (f : Refusal). IsLeast (NamesBroken c.args.source.now) (Some f)) (sym c.unwrap_or.ensures)
    (least_there c.args.source.now c.in-Ok.first c.args.twice c.requires c.in-Ok.ensures)
