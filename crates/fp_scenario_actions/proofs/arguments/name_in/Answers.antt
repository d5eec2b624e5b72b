use Rattle.std.proofs.Common.{refl, sym, ◌∙◌, ap}
use Rattle.serde_json.specs.View.{view, members_view}
use Rattle.serde_json.proofs.Views.{members_len-members_view}
use Rattle.fp_scenario_actions.proofs.Arguing.{name_alone, not_alone}
use Rattle.fp_scenario_actions.proofs.arguments.name_in.Goals as goal

pub returns-then-len-eq1 : goal.returns-then-len-eq1
returns-then-len-eq1 c =
    let es = c.in-Some.members.now.entries in
    c.text_at.ensures ∙ name_alone (view c.args.value.now) (members_view es) c.in-Some.ensures (members_len-members_view es ∙ sym c.len.ensures.len ∙ c.if-len-eq1.true)

pub returns-else-len-eq1 : goal.returns-else-len-eq1
returns-else-len-eq1 c =
    let es = c.in-Some.members.now.entries in
    not_alone (view c.args.value.now) (members_view es) c.in-Some.ensures (λ e. c.if-len-eq1.false (c.len.ensures.len ∙ sym (members_len-members_view es) ∙ e))
