use Rattle.std.proofs.Common.{◌∙◌}
use Rattle.fp_actor.proofs.Reaching.{listed}
use Rattle.fp_actor.proofs.view.View.deed.Goals as goal

pub returns-in-Some : goal.returns-in-Some
returns-in-Some c =
    let v = c.args.self.now in
    c.get.ensures.value v.tables.now v.program.now v.number v.trace.now ∙ listed _ _ c.args.at.action c.in-Some.ensures.value
