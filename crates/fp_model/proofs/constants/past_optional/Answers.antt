use Rattle.std.proofs.Common.{sym, subst}
use Rattle.std.specs.Option.{option_copied}
use Rattle.fp_model.specs.Given.{Passes}
use Rattle.fp_model.proofs.Adding.{nothing_more, past_one}
use Rattle.fp_model.proofs.constants.past_optional.Goals as goal

pub returns-in-Some : goal.returns-in-Some
returns-in-Some c =
    subst (λ o. Passes c.args.values.now (option_copied o) c.args.before c.past.result) (sym c.in-Some.is)
    (λ scope. past_one c.args.values.now _ c.args.before c.past.result c.past.ensures.constants c.past.ensures.next)

pub returns-in-None : goal.returns-in-None
returns-in-None c =
    subst (λ o. Passes c.args.values.now (option_copied o) c.args.before c.args.before) (sym c.in-None.is) (λ scope. nothing_more c.args.values.now c.args.before)
