use Rattle.std.proofs.Common.{ap, refl}
use Rattle.fp_events.specs.Follows.{handling, hooking}
use Rattle.fp_actor.proofs.Looking.{carry, looked, same_bound}
use Rattle.fp_actor.proofs.view.View.hooked_value.Goals as goal

pub returns : goal.returns
returns c =
    let v = c.args.self.now in
    let own = handling v.tables.now v.program.now c.args.instance c.args.point c.args.with.now in
    let hook = hooking v.tables.now v.program.now c.args.instance c.args.point c.args.with.now in
    carry c.handled_value.result _ _ (ap (looked c.args.name.now) (same_bound own hook refl c.args.list)) c.handled_value.ensures
