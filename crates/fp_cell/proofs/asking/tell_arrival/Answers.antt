use Rattle.std.proofs.Common.{sym}
use Rattle.fp_events.specs.Manners.{by}
use Rattle.fp_cell.specs.Stepping.{inside}
use Rattle.fp_cell.proofs.Asked.{free_manner, has_manner}
use Rattle.fp_cell.proofs.asking.tell_arrival.Goals as goal

pub tell_by-requires-clause-free : goal.tell_by-requires-clause-free
tell_by-requires-clause-free c =
    free_manner c.args.setting.now.tables.now c.args.setting.now.program.now c.args.setting.now.instance (inside c.args.state.now) c.args.arrival.now (by c.in-Some-By.way) c.requires.free
    (sym (rw (c.in-Some-By.field-0-is) at c.in-Some-By.ensures))

pub unreachable-requires : goal.unreachable-requires
unreachable-requires c = has_manner c.args.setting.now.tables.now c.args.setting.now.program.now c.args.setting.now.instance c.args.arrival.now c.requires.askable (sym c.in-None.ensures)
