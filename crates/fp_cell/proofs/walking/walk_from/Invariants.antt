use Rattle.std.proofs.Common.{◌≡◌, ◌-◌, length}
use Rattle.fp_events.specs.Lookup.{answers_of}
use Rattle.fp_machine_flat.specs.Walking.{walk}
use Rattle.fp_cell.specs.Walked.{walks_on}
use Rattle.fp_cell.proofs.walking.walk_from.Given as goal

abbrev pub invariant-loop-passed : goal.invariant-loop-passed
invariant-loop-passed l =
    walk l.flat.machine (answers_of l.program l.instance l.running) l.nodes l.fn.at l.fn.asked.items
    ≡ walks_on l.flat.machine (answers_of l.program l.instance l.running) l.nodes l.actions (length l.nodes - l._passed) l.at l.asked.items
