use Rattle.std.proofs.Common.{map, sym, ◌∙◌}
use Rattle.std.proofs.lemmas.List.{length-map}
use Rattle.fp_gate.specs.Locks.{id_of}
use Rattle.fp_plant.proofs.Beginning.{rows_new, are_all, are_opened}
use Rattle.fp_plant.proofs.plant.Plant.open.Goals as goal

pub hands_of-requires-clause-each : goal.hands_of-requires-clause-each
hands_of-requires-clause-each c =
    rows_new c.args.tables.now c.args.program.now (map (λ l. id_of l) c.in_ok-locks.locks.items) c.add_locks.new.rows.items c.in_ok-locks.ensures.dealt
    (length-map c.in_ok-locks.locks.items (λ l. id_of l) ∙ c.in_ok-locks.ensures.count)

pub returns-clause-hands : goal.returns-clause-hands
returns-clause-hands c =
    are_all c.args.tables.now c.args.program.now (map (λ l. id_of l) c.in_ok-locks.locks.items) c.add_locks.new.rows.items c.in_ok-hands.hands c.in_ok-locks.ensures.dealt
    (length-map c.in_ok-locks.locks.items (λ l. id_of l) ∙ c.in_ok-locks.ensures.count) c.in_ok-hands.ensures.each
    (c.in_ok-hands.ensures.count ∙ (c.actor_count-count.ensures ∙ sym c.in_ok-locks.ensures.dealt.shape.count))

pub returns-clause-opened : goal.returns-clause-opened
returns-clause-opened c =
    are_opened c.args.tables.now c.args.program.now (map (λ l. id_of l) c.in_ok-locks.locks.items) c.add_locks.new.rows.items c.in_ok-hands.hands c.in_ok-locks.ensures.dealt
    (length-map c.in_ok-locks.locks.items (λ l. id_of l) ∙ c.in_ok-locks.ensures.count) c.in_ok-hands.ensures.each
    (c.in_ok-hands.ensures.count ∙ (c.actor_count-count.ensures ∙ sym c.in_ok-locks.ensures.dealt.shape.count))
