use Rattle.std.proofs.Common.{◌≡◌, ◌&&◌, not, filter, ap, ◌∙◌}
use Rattle.std.proofs.lemmas.Result.{IfOk-weaker}
use Rattle.fp_scenario_actions.specs.Named.{placed_named}
use Rattle.fp_scenario_check.specs.Planned.{is_of, has_own, of_instance}
use Rattle.fp_scenario_check.proofs.standing.stands_for.Goals as goal

pub returns-in-None : goal.returns-in-None
returns-in-None c =
    let t = c.args.tables.now in
    let h = c.args.text.now in
    IfOk-weaker c.instances_among.result _ _
    (λ found is scenario owns.
    is scenario owns ∙ ap (filter (λ i. is_of t h.of i && not (has_own t scenario h.on_ i))) c.placed.ensures ∙ ap (of_instance t scenario h) (c.in-None.ensures ∙ ap (placed_named t) c.as_str.ensures))
    c.instances_among.ensures
