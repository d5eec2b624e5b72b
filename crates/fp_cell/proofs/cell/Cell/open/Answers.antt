use Rattle.fp_cell.proofs.Openings.{kept_opened}
use Rattle.fp_cell.proofs.cell.Cell.open.Goals as goal

pub invariant_of-result : goal.invariant_of-result
invariant_of-result c =
    kept_opened c.in_ok-setting.setting c.in_ok-state.state c.new.result c.args.tables.now c.args.program.now c.args.instance c.in_ok-setting.ensures.tables
    c.in_ok-setting.ensures.program c.in_ok-setting.ensures.instance c.in_ok-setting.ensures.set
    (record {
      sound = c.requires.sound;
      placed = c.requires.placed;
      opened = c.in_ok-state.ensures.opened;
      size = c.in_ok-state.ensures.size;
      known = c.in_ok-state.ensures.known;
    })
    c.new.ensures
