use Rattle.std.proofs.Common.{◌≡◌, List, map, length, sym, subst, arith}
use Rattle.std.proofs.lemmas.List.{length-map}
use Rattle.fp_events.specs.declared.event.Entry.{Entry}
use Rattle.fp_events.specs.Run.{AreRecords}
use Rattle.fp_gate.specs.Locks.{id_of}
use Rattle.fp_plant.specs.Planted.{Planted, AreAll}
use Rattle.fp_plant.proofs.Ending.{as_many_passes, each_may_close, all_seen}
use Rattle.fp_plant.proofs.plant.Plant.close.Goals as goal

pub take_hands-requires-clause-wide : goal.take_hands-requires-clause-wide
take_hands-requires-clause-wide c = λ a h at.
    let w : Planted = record { tables = c.self.inside.tables.now; program = c.self.inside.program.now; locks = map (λ l. id_of l) c.self.inside.locks.items } in
    let all : AreAll w c.args.hands = subst (λ (z : Planted). AreAll z c.args.hands) (sym c.self.view_is) c.requires in
    let many : length w.locks ≡ length c.self.inside.locks.items = length-map c.self.inside.locks.items (λ l. id_of l) in
    let e : length h.passes ≡ length w.locks = as_many_passes w c.args.hands all a h at in
    omega (arith, e, many, c.self.inside.locks.ok.0, c.in_ok-columns.ensures.count)

pub close_locks-requires-clause-each : goal.close_locks-requires-clause-each
close_locks-requires-clause-each c =
    let high : length c.in_ok-columns.columns.items ≡ length c.self.inside.locks.items = omega (arith, c.self.inside.locks.ok.0, c.in_ok-columns.ensures.count) in
    each_may_close c.self.inside.tables.now c.self.inside.program.now c.self.inside.locks.items c.args.hands
    (subst (λ (z : Planted). AreAll z c.args.hands) (sym c.self.view_is) c.requires) c.in_ok-traces.ensures.known c.take_hands.new.columns.items (length c.in_ok-columns.columns.items)
    c.in_ok-traces.ensures.shape high c.in_ok-traces.ensures.columns c.self.invariant.3 c.self.invariant.4

pub returns-clause-records : goal.returns-clause-records
returns-clause-records c =
    let high : length c.in_ok-columns.columns.items ≡ length c.self.inside.locks.items = omega (arith, c.self.inside.locks.ok.0, c.in_ok-columns.ensures.count) in
    let seen = all_seen c.self.inside.tables.now c.self.inside.program.now c.self.inside.locks.items c.args.hands
    (subst (λ (z : Planted). AreAll z c.args.hands) (sym c.self.view_is) c.requires) c.in_ok-traces.ensures.known c.take_hands.new.columns.items (length c.in_ok-columns.columns.items)
    c.in_ok-traces.ensures.shape high c.in_ok-traces.ensures.columns c.self.invariant.3 c.self.invariant.2 c.in_ok-histories.histories c.in_ok-histories.ensures.count
    c.in_ok-histories.ensures.each c.in_ok-traces.traces c.in_ok-traces.ensures.traces in
    subst (λ (z : Planted). AreRecords z.tables z.program c.in_ok-histories.histories c.in_ok-traces.traces) c.self.view_is
    (subst (λ (l : List (List Entry)). AreRecords c.self.inside.tables.now c.self.inside.program.now l c.in_ok-traces.traces) seen.2
    (c.seen_records.ensures c.self.inside.tables.now c.self.inside.program.now seen.0 c.in_ok-traces.traces seen.1))
