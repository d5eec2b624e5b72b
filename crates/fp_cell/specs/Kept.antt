-- What the fields of a cell keep.
use Rattle.std.specs.Prelude.{◌≡◌, true}
use Rattle.fp_tables.specs.Acts.{is_placed}
use Rattle.fp_cell.specs.Cells.{Standing, IsKeptOf}
use Rattle.fp_cell.specs.Ready.{IsReady}
use Rattle.fp_cell.specs.Stepping.{inside}
use Rattle.fp_cell.specs.declared.cell.Cell.TheInside.{Inside}

-- the cell that these fields are
abbrev pub standing : Inside → Standing
standing c = record {
  seat = record { tables = c.setting.tables.now; program = c.setting.program.now; instance = c.setting.instance };
  state = record { inside = inside c.state; last = c.last };
  history = c.history;
}

pub record IsKept (c : Inside) : Type 0 where
  pub ready : IsReady c.setting c.state
  pub placed : is_placed c.setting.tables.now c.setting.instance ≡ true
  pub kept : IsKeptOf (standing c)
