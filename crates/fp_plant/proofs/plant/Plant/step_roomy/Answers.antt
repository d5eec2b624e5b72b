use Rattle.std.proofs.Common.{rules, ◌≡◌, map, get_or, Some, refl, sym, subst, arith}
use Rattle.std.proofs.lemmas.Option.{slice_get_within}
use Rattle.fp_actor.specs.Acting.{due_of_actor}
use Rattle.fp_gate.specs.Locks.{id_of}
use Rattle.fp_plant.specs.Planted.{Handed, Planted, Gives}
use Rattle.fp_plant.proofs.Stepping.{due_fits, placed_too, lock_there, asked, at_end, halted}
use Rattle.fp_plant.proofs.plant.Plant.step_roomy.Goals as goal

pub place_of-place-requires : goal.place_of-place-requires
place_of-place-requires g c =
    let h : Handed = c.args.hand.now in
    let w : Planted = record { tables = c.self.inside.tables.now; program = c.self.inside.program.now; locks = map (λ l. id_of l) c.self.inside.locks.items } in
    let gives : Gives w h = subst (λ (z : Planted). Gives z h) (sym c.self.view_is) c.requires.gave in
    let due : due_of_actor h.actor ≡ Some (c.in-Ask.instance, c.in-Ask.ask) = asked h c.in_ok-instance.field-0 c.in-Ask.instance c.in-Ask.ask c.in-Ask.is c.in_ok-instance.ensures.next in
    let fits = due_fits w h gives c.due_asks.ensures.fit c.self.invariant.0 c.self.invariant.1 c.in_ok-instance.ensures.known.told c.in-Ask.instance c.in-Ask.ask due in
    placed_too w h gives c.in-Ask.instance fits.1

pub index-requires : goal.index-requires
index-requires g c =
    let low = slice_get_within _ c.place_of-place.result c.in-Ask.instance c.place_of-place.ensures in
    omega (arith, low, c.self.invariant.3, c.self.inside.locks.ok.0)

pub take_ask-requires-clause-gave : goal.take_ask-requires-clause-gave
take_ask-requires-clause-gave g c =
    let h : Handed = c.args.hand.now in
    let w : Planted = record { tables = c.self.inside.tables.now; program = c.self.inside.program.now; locks = map (λ l. id_of l) c.self.inside.locks.items } in
    let gives : Gives w h = subst (λ (z : Planted). Gives z h) (sym c.self.view_is) c.requires.gave in
    let low = slice_get_within _ c.place_of-place.result c.in-Ask.instance c.place_of-place.ensures in
    let is : c.index.result.now ≡ get_or c.self.inside.locks.items c.place_of-place.result c.index.result.now = search rules in
    lock_there w h gives c.self.inside.locks.items c.place_of-place.result c.index.result.now refl (omega (arith, low, c.self.invariant.3)) is

pub take_ask-requires-clause-actor : goal.take_ask-requires-clause-actor
take_ask-requires-clause-actor g c =
    let h : Handed = c.args.hand.now in
    let w : Planted = record { tables = c.self.inside.tables.now; program = c.self.inside.program.now; locks = map (λ l. id_of l) c.self.inside.locks.items } in
    let gives : Gives w h = subst (λ (z : Planted). Gives z h) (sym c.self.view_is) c.requires.gave in
    let due : due_of_actor h.actor ≡ Some (c.in-Ask.instance, c.in-Ask.ask) = asked h c.in_ok-instance.field-0 c.in-Ask.instance c.in-Ask.ask c.in-Ask.is c.in_ok-instance.ensures.next in
    let fits = due_fits w h gives c.due_asks.ensures.fit c.self.invariant.0 c.self.invariant.1 c.in_ok-instance.ensures.known.told c.in-Ask.instance c.in-Ask.ask due in
    fits.0

pub take_ask-requires-clause-askable : goal.take_ask-requires-clause-askable
take_ask-requires-clause-askable g c =
    let h : Handed = c.args.hand.now in
    let w : Planted = record { tables = c.self.inside.tables.now; program = c.self.inside.program.now; locks = map (λ l. id_of l) c.self.inside.locks.items } in
    let gives : Gives w h = subst (λ (z : Planted). Gives z h) (sym c.self.view_is) c.requires.gave in
    let due : due_of_actor h.actor ≡ Some (c.in-Ask.instance, c.in-Ask.ask) = asked h c.in_ok-instance.field-0 c.in-Ask.instance c.in-Ask.ask c.in-Ask.is c.in_ok-instance.ensures.next in
    let fits = due_fits w h gives c.due_asks.ensures.fit c.self.invariant.0 c.self.invariant.1 c.in_ok-instance.ensures.known.told c.in-Ask.instance c.in-Ask.ask due in
    fits.2

pub returns-in-AtEnd-clause-answered : goal.returns-in-AtEnd-clause-answered
returns-in-AtEnd-clause-answered g c = at_end c.args.hand.now c.in_ok-instance.field-0 c.in-AtEnd.is c.in_ok-instance.ensures.next

pub returns-in-Halted-clause-answered : goal.returns-in-Halted-clause-answered
returns-in-Halted-clause-answered g c = halted c.args.hand.now c.in_ok-instance.field-0 c.in-Halted.is c.in_ok-instance.ensures.next
