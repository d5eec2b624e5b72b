use Rattle.std.proofs.Common.{sym, ◌∙◌}
use Rattle.fp_model.specs.declared.constants.ConstantsFound.{ConstantsFound}
use Rattle.fp_model.proofs.Adding.{if_ok_both, never_missing, one_more}
use Rattle.fp_model.proofs.constants.with_constant.Goals as goal

pub returns-in-Some : goal.returns-in-Some
returns-in-Some c =
    if_ok_both c.with_value.result _ _ _
    (λ (after : ConstantsFound) adds counts. one_more c.args.values.now c.args.scope.now c.args.constant.now c.in-Some.value c.args.before after (sym c.in_ok-value.ensures ∙ c.in-Some.is) adds counts)
    c.with_value.ensures.constants c.with_value.ensures.next

pub returns-in-None : goal.returns-in-None
returns-in-None c = never_missing c.args.values.now c.args.scope.now c.args.constant.now c.args.before c.args.before (sym c.in_ok-value.ensures ∙ c.in-None.is)
