use Rattle.std.proofs.Common.{◌≡◌, ◌<◌, true, false, length, refl, arith}
use Rattle.std.specs.Prelude.{vec_len}
use Rattle.std.proofs.lemmas.Option.{slice_get_read}
use Rattle.fp_base.proofs.Options.{if_ok_then}
use Rattle.fp_running.proofs.OneTurn.{stands_first, set_after}
use Rattle.fp_running.proofs.turning.take_turn.Goals as goal

never : false ≡ true → ⊥
never h = cc

pub unreachable-requires : goal.unreachable-requires
unreachable-requires c =
    let there : c.args.number < vec_len c.args.actors.now = omega (arith, c.requires.known, c.requires.set.actors.count, c.args.actors.now.ok.0) in
    never (c.in_default.ensures.variant.1 there)

pub turn_of-requires-clause-stands : goal.turn_of-requires-clause-stands
turn_of-requires-clause-stands c =
    let there : c.args.number < length c.args.actors.now.items = omega (arith, c.requires.known, c.requires.set.actors.count) in
    let found = slice_get_read c.args.actors.now.items (length c.args.actors.now.items) c.args.number c.in-Some.actor.now refl there c.in-Some.ensures.value in (
      c.requires.set.world,
      stands_first c.args.tables.now c.args.program.now c.args.number c.args.done.now c.args.done.now c.args.cells.now.items c.args.cells.now.items c.args.actors.now.items
          c.in-Some.actor.now c.in-Some.actor.now c.requires.set found,
    )

pub returns-clause-turned : goal.returns-clause-turned
returns-clause-turned c =
    let there : c.args.number < length c.args.actors.now.items = omega (arith, c.requires.known, c.requires.set.actors.count) in
    let found = slice_get_read c.args.actors.now.items (length c.args.actors.now.items) c.args.number c.in-Some.actor.now refl there c.in-Some.ensures.value in
    let first = stands_first c.args.tables.now c.args.program.now c.args.number c.args.done.now c.args.done.now c.args.cells.now.items c.args.cells.now.items c.args.actors.now.items
    c.in-Some.actor.now c.in-Some.actor.now c.requires.set found in
    if_ok_then c.turn_of.result _ _ (λ u h. (c.requires.set.world, c.requires.set.run, h)) (c.turn_of.ensures.comes c.requires.set.world first)

pub returns-clause-set : goal.returns-clause-set
returns-clause-set c =
    let there : c.args.number < length c.args.actors.now.items = omega (arith, c.requires.known, c.requires.set.actors.count) in
    let found = slice_get_read c.args.actors.now.items (length c.args.actors.now.items) c.args.number c.in-Some.actor.now refl there c.in-Some.ensures.value in
    let first = stands_first c.args.tables.now c.args.program.now c.args.number c.args.done.now c.args.done.now c.args.cells.now.items c.args.cells.now.items c.args.actors.now.items
    c.in-Some.actor.now c.in-Some.actor.now c.requires.set found in
    set_after c.args.tables.now c.args.program.now c.args.number c.args.done.now c.turn_of.new.done c.args.cells.now.items c.turn_of.new.cells.items c.args.actors.now.items
    c.in-Some.actor.now c.turn_of.new.actor c.requires.set found (c.turn_of.ensures.stands c.requires.set.world first)
