use Rattle.std.proofs.Common.{◌≡◌, ◌<◌, true, false, length, Some, refl, arith}
use Rattle.std.specs.List.{slice_get}
use Rattle.std.specs.Prelude.{vec_len}
use Rattle.std.proofs.lemmas.Option.{slice_get_read}
use Rattle.fp_base.proofs.Lists.{get_within}
use Rattle.fp_run_laws.proofs.Apart.{placed_apart}
use Rattle.fp_tables.specs.Lookup.{placed}
use Rattle.fp_running.proofs.OneTurn.{is_actor, is_cell, fitting, failed, comes, stands_on}
use Rattle.fp_running.proofs.turning.ask_cell.Goals as goal

pub place_of-place-requires : goal.place_of-place-requires
place_of-place-requires c =
    (fitting c.args.tables.now c.args.program.now c.args.number (c.steps.ensures.laws c.args.tables.now c.args.program.now)
    (c.due_asks.ensures.fit c.args.tables.now c.args.program.now c.requires.sound c.requires.good) _ c.requires.stands.0 c.requires.stands.1 c.args.instance c.args.ask.now c.requires.due).1

never : false ≡ true → ⊥
never h = cc

pub unreachable-requires : goal.unreachable-requires
unreachable-requires c =
    let low : c.place_of-place.result < length (placed c.args.tables.now) = get_within (placed c.args.tables.now) c.place_of-place.result c.args.instance c.place_of-place.ensures in
    let there : c.place_of-place.result < vec_len c.args.cells.now = omega (arith, low, c.requires.stands.1.cells.count, c.args.cells.now.ok.0) in
    never (c.in_default.ensures.variant.1 there)

pub meet-requires-clause-actor : goal.meet-requires-clause-actor
meet-requires-clause-actor c = is_actor c.args.tables.now c.args.program.now c.args.number _ c.requires.stands.0 c.requires.stands.1

pub meet-requires-clause-cell : goal.meet-requires-clause-cell
meet-requires-clause-cell c =
    let low : c.place_of-place.result < length (placed c.args.tables.now) = get_within (placed c.args.tables.now) c.place_of-place.result c.args.instance c.place_of-place.ensures in
    let there : c.place_of-place.result < length c.args.cells.now.items = omega (arith, low, c.requires.stands.1.cells.count) in
    is_cell c.args.tables.now c.args.program.now c.args.number c.args.instance c.args.ask.now c.args.done.now c.requires.stands.0 c.in-Some.cell.now
    (c.requires.stands.1.cells.each c.place_of-place.result c.args.instance c.in-Some.cell.now c.place_of-place.ensures
    (slice_get_read c.args.cells.now.items (length c.args.cells.now.items) c.place_of-place.result c.in-Some.cell.now refl there c.in-Some.ensures.value))

pub meet-requires-clause-known : goal.meet-requires-clause-known
meet-requires-clause-known c =
    (fitting c.args.tables.now c.args.program.now c.args.number (c.steps.ensures.laws c.args.tables.now c.args.program.now)
    (c.due_asks.ensures.fit c.args.tables.now c.args.program.now c.requires.sound c.requires.good) _ c.requires.stands.0 c.requires.stands.1 c.args.instance c.args.ask.now c.requires.due).0

pub meet-requires-clause-askable : goal.meet-requires-clause-askable
meet-requires-clause-askable c =
    (fitting c.args.tables.now c.args.program.now c.args.number (c.steps.ensures.laws c.args.tables.now c.args.program.now)
    (c.due_asks.ensures.fit c.args.tables.now c.args.program.now c.requires.sound c.requires.good) _ c.requires.stands.0 c.requires.stands.1 c.args.instance c.args.ask.now c.requires.due).2

pub returns-clause-comes : goal.returns-clause-comes
returns-clause-comes c = λ w h.
    let low : c.place_of-place.result < length (placed c.args.tables.now) = get_within (placed c.args.tables.now) c.place_of-place.result c.args.instance c.place_of-place.ensures in
    let there : c.place_of-place.result < length c.args.cells.now.items = omega (arith, low, c.requires.stands.1.cells.count) in
    comes c.args.tables.now c.args.program.now c.args.number c.args.instance c.args.ask.now c.args.actor.now c.meet.new.actor c.in-Some.cell.now c.meet.new.cell c.args.done.now c.meet.new.done
    c.args.cells.now.items c.place_of-place.result c.place_of-place.ensures
    (slice_get_read c.args.cells.now.items (length c.args.cells.now.items) c.place_of-place.result c.in-Some.cell.now refl there c.in-Some.ensures.value) c.requires.due w h
    (c.steps.ensures.taking c.args.tables.now c.args.program.now) (placed_apart c.args.tables.now c.requires.sound) c.waiting.ensures c.meet.result c.meet.ensures.met

pub returns-clause-stands : goal.returns-clause-stands
returns-clause-stands c = λ w h.
    let low : c.place_of-place.result < length (placed c.args.tables.now) = get_within (placed c.args.tables.now) c.place_of-place.result c.args.instance c.place_of-place.ensures in
    let there : c.place_of-place.result < length c.args.cells.now.items = omega (arith, low, c.requires.stands.1.cells.count) in
    stands_on c.args.tables.now c.args.program.now c.args.number c.args.instance c.args.ask.now c.args.actor.now c.meet.new.actor c.in-Some.cell.now c.meet.new.cell c.args.done.now c.meet.new.done
    c.args.cells.now.items c.place_of-place.result c.place_of-place.ensures
    (slice_get_read c.args.cells.now.items (length c.args.cells.now.items) c.place_of-place.result c.in-Some.cell.now refl there c.in-Some.ensures.value) c.requires.due w h
    (c.steps.ensures.taking c.args.tables.now c.args.program.now) (placed_apart c.args.tables.now c.requires.sound) c.meet.result c.meet.ensures.met c.meet.ensures.failed

pub returns-clause-failed : goal.returns-clause-failed
returns-clause-failed c = failed c.args.tables.now c.args.program.now c.args.number c.args.instance c.args.ask.now c.meet.result
    (record { actor = c.args.actor.now; cell = c.in-Some.cell.now; entries = c.args.done.now }) (record { actor = c.meet.new.actor; cell = c.meet.new.cell; entries = c.meet.new.done })
    c.meet.ensures.failed
