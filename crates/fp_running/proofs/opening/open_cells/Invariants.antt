use Rattle.std.proofs.Common.{◌≤◌, length}
use Rattle.fp_running.proofs.Opened.{AreFirst, FreshAt}
use Rattle.fp_running.proofs.opening.open_cells.Given as goal

abbrev pub invariant-loop-instance : goal.invariant-loop-instance
invariant-loop-instance l = record { first : AreFirst (FreshAt l.tables l.program) l.cells.items l.instance-index; within : l.instance-index ≤ length l.instances }
