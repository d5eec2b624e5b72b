use Rattle.std.proofs.Common.{sym}
use Rattle.fp_cell.proofs.Asked.{has_channel}
use Rattle.fp_cell.proofs.asking.tell_write.Goals as goal

pub unreachable-requires : goal.unreachable-requires
unreachable-requires c = has_channel c.args.setting.now.tables.now c.args.setting.now.program.now c.args.setting.now.instance c.args.channel c.args.value.now c.requires.askable (sym c.in-None.ensures)
