use Rattle.std.proofs.Common.{ap, sym, ◌∙◌}
use Rattle.fp_events.specs.Follows.{handling}
use Rattle.fp_actor.proofs.Looking.{carry, looked, only_bound}
use Rattle.fp_actor.proofs.view.View.handled_value.Goals as goal

pub returns-then-list-eq0 : goal.returns-then-list-eq0
returns-then-list-eq0 c =
    let v = c.args.self.now in
    let d = handling v.tables.now v.program.now c.args.instance c.args.point c.args.with.now in
    carry c.formal_value.result _ _
    (ap (looked c.args.name.now) (sym (c.formals.ensures v.program.now c.args.with.now) ∙ only_bound d c.args.list c.if-list-eq0.true)) c.formal_value.ensures
