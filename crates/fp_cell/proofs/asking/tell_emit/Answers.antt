use Rattle.std.proofs.Common.{sym}
use Rattle.fp_cell.proofs.Asked.{event_filled, has_event}
use Rattle.fp_cell.proofs.asking.tell_emit.Goals as goal

pub emit-requires-clause-fits : goal.emit-requires-clause-fits
emit-requires-clause-fits c =
    event_filled c.args.setting.now.tables.now c.args.setting.now.program.now c.args.setting.now.instance c.requires.ready.sound.0 c.args.event c.args.with.now
    c.in-Some.known.now c.requires.askable (sym c.in-Some.ensures)

pub unreachable-requires : goal.unreachable-requires
unreachable-requires c =
    has_event c.args.setting.now.tables.now c.args.setting.now.program.now c.args.setting.now.instance c.args.event c.args.with.now c.requires.askable (sym c.in-None.ensures)
