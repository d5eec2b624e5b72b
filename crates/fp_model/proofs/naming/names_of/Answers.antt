use Rattle.std.proofs.Common.{subst}
use Rattle.fp_base.specs.declared.refusal.Stop.{Stop}
use Rattle.fp_base.specs.Least.{IsStop}
use Rattle.fp_meaning.specs.Broken.{BrokenByDefinitions}
use Rattle.fp_model.proofs.Stopping.{twice_broken}
use Rattle.fp_model.proofs.naming.names_of.Goals as goal

pub least_name-requires : goal.least_name-requires
least_name-requires c =
    twice_broken c.args.source.now c.in-Err-Broken.twice
    (subst (λ (s : Stop). IsStop (BrokenByDefinitions c.args.source.now) s) c.in-Err-Broken.field-0-is c.in-Err-Broken.ensures.stop)
