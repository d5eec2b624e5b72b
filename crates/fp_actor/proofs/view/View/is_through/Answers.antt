use Rattle.std.proofs.Common.{refl}
use Rattle.fp_actor.proofs.Through.{none_left, through}
use Rattle.fp_actor.proofs.view.View.is_through.Goals as goal

pub returns-in_default : goal.returns-in_default
returns-in_default c = λ bindings. rw (c.in_default.ensures bindings) refl

pub returns : goal.returns
returns c = λ bindings.
    let v = c.args.self.now in
    let ls = c.args.levels.now in
    let done = none_left v.tables.now v.program.now v.number v.trace.now bindings ls c.first.result (c.first.ensures bindings) c.is_none-done.result c.is_none-done.ensures in
    through v.tables.now v.program.now v.number v.trace.now bindings ls c.in-Some.bottom (c.in-Some.ensures bindings) c.is_own-own.result c.is_none-done.result c.is_own-own.ensures done
