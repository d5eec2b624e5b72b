use Rattle.fp_actor.specs.Stacked.{made, bound_in, given_at}
use Rattle.fp_actor.proofs.Looking.{carry, found_made, found_base}
use Rattle.fp_actor.proofs.view.View.bound_value.Goals as goal

pub returns-in-Some : goal.returns-in-Some
returns-in-Some c =
    let v = c.args.self.now in
    let xs = made v.tables.now v.program.now v.number v.trace.now c.args.bindings.now c.args.level in
    let ys = bound_in v.tables.now v.program.now v.number v.trace.now c.args.level.next in
    carry c.given.result _ _ (found_made c.args.name.now xs ys (given_at v.tables.now v.program.now v.number v.trace.now c.in-Some.at) (rw c.made_in-made.ensures at c.in-Some.ensures)) c.given.ensures

pub returns-in-None : goal.returns-in-None
returns-in-None c =
    let v = c.args.self.now in
    let xs = made v.tables.now v.program.now v.number v.trace.now c.args.bindings.now c.args.level in
    let ys = bound_in v.tables.now v.program.now v.number v.trace.now c.args.level.next in
    carry c.base_or_opaque.result _ _ (found_base c.args.name.now xs ys (rw c.made_in-made.ensures at c.in-None.ensures)) c.base_or_opaque.ensures
