use Rattle.std.proofs.Common.{length, sym, ◌∙◌, w32}
use Rattle.std.proofs.lemmas.Int.{to_z-of_z}
use Rattle.fp_cell.proofs.Asked.{some_room, known_as, treated_as}
use Rattle.fp_cell.proofs.asking.tell_later.Goals as goal

pub put-requires-clause-known : goal.put-requires-clause-known
put-requires-clause-known c =
    known_as c.args.setting.now.tables.now c.args.setting.now.instance c.args.arrival.now.point c.args.state.now.calls.priorities c.args.priority _ c.args.full
    (to_z-of_z w32 c.args.priority c.ranges.priority)
    (c.requires.ready.known (some_room (length c.args.state.now.calls.pending) c.args.state.now.calls.size (sym c.has_room.ensures ∙ c.if-has_room.true))) c.requires.how

pub returns-then-has_room-clause-ok : goal.returns-then-has_room-clause-ok
returns-then-has_room-clause-ok c =
    c.put.ensures.ok c.args.setting.now.tables.now c.args.setting.now.program.now c.args.setting.now.instance c.args.actor c.args.full c.requires.ready.size
    (treated_as c.args.setting.now.tables.now c.args.setting.now.instance c.args.arrival.now.point c.args.priority _ c.args.full (to_z-of_z w32 c.args.priority c.ranges.priority) c.requires.how)

pub returns-clause-ok : goal.returns-clause-ok
returns-clause-ok c =
    c.overflow.ensures.ok c.args.setting.now.tables.now c.args.setting.now.program.now c.args.setting.now.instance c.args.priority c.requires.ready.size c.requires.how
