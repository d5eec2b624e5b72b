use Rattle.std.proofs.Common.{◌∙◌, List, Bool, ap, subst}
use Rattle.fp_machine_rules.specs.declared.item.Target.{Target}
use Rattle.fp_machine_rules.specs.Reaching.{IsReached}
use Rattle.fp_machine_rules.specs.Giving.{other_flag}
use Rattle.fp_machine_rules.specs.Undefined.{flags_from}
use Rattle.fp_base.proofs.Options.{if_ok_then}
use Rattle.fp_machine_rules.proofs.Giving.{given_told}
use Rattle.fp_machine_rules.proofs.values.given_by.Goals as goal

pub returns : goal.returns
returns c =
    let visit = subst (λ (s : List Target). IsReached c.args.rows.now s c.in_ok-visit.visit.seen.items c.in_ok-visit.visit.found.items) (c.as_slice.ensures ∙ c.in_ok-starts.ensures) c.in_ok-visit.ensures in
    if_ok_then c.other_flags.result _ _
    (λ flags e.
    given_told c.args.items.now c.args.signals.now c.args.wanted c.args.rows.now c.requires _ _ visit flags.items
    (e ∙ ap (λ (s : List Bool). flags_from (other_flag c.args.signals.now c.args.wanted s) 0 c.args.items.now) c.deref.ensures.value))
    c.other_flags.ensures
