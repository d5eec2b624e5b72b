use Rattle.std.proofs.Common.{◌≡◌, drop}
use Rattle.fp_tables.specs.Lists.{all_from}
use Rattle.fp_tables.specs.Positions.{are_in_preorder, stands_in_order}
use Rattle.fp_sound_machines.proofs.states.are_in_preorder.Given as goal

abbrev pub invariant-loop-at : goal.invariant-loop-at
invariant-loop-at l = are_in_preorder l.vertices ≡ all_from (stands_in_order l.vertices) l.at (drop l.at l.vertices)
