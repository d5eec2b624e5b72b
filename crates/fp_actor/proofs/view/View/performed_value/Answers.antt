use Rattle.std.proofs.Common.{Bool, None, cond, ◌&&◌, ap, ◌∙◌}
use Rattle.std.specs.Prelude.{codes}
use Rattle.fp_base.specs.Same.{same_text}
use Rattle.fp_actor.specs.Stacked.{value_at}
use Rattle.fp_actor.proofs.Looking.{carry, looked, action_bound, performed_bound, performed_none}
use Rattle.fp_actor.proofs.view.View.performed_value.Goals as goal

pub returns-in-Some : goal.returns-in-Some
returns-in-Some c =
    let v = c.args.self.now in
    let x = value_at v.tables.now v.program.now v.number v.trace.now c.args.value in
    carry c.action_value.result _ _
    (ap (λ (b : Bool). cond (b && same_text (codes "value") c.args.name.now) x None) c.takes_value-takes.ensures ∙ action_bound v.tables.now v.program.now x _ c.args.name.now
    ∙ ap (looked c.args.name.now) (performed_bound _ c.args.actions.now c.args.list c.in-Some.action.now c.in-Some.ensures.value))
    c.action_value.ensures

pub returns-in-None : goal.returns-in-None
returns-in-None c = ap (looked c.args.name.now) (performed_none _ c.args.actions.now c.args.list c.in-None.ensures.value)
