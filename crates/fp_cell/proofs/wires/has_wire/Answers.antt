use Rattle.fp_cell.proofs.wires.has_wire.Goals as goal

pub special_wire-requires : goal.special_wire-requires
special_wire-requires c = c.requires.0.lists.lists_are_short
