-- The exit statuses of the program, and the statuses of calls by the ends of their runs.
use Rattle.std.specs.Prelude.{ℕ}
use Rattle.fp_events.specs.declared.event.Finish.{Finish}
use Rattle.fp_events.specs.declared.event.Finish.TheVariants as finish
use Rattle.fp_events.specs.declared.event.Finish.TheVariants.{Complete}
use Rattle.fp_main.specs.declared.status.Status.{Status}
use Rattle.fp_main.specs.declared.status.Status.TheVariants.{Done, Refused, Usage, ReadFault, WriteFault, NoFile, Stuck, Spent, Asserted, NoMemory, NoTopology}

abbrev pub code_of : Status → ℕ
code_of Done = 0
code_of Refused = 1
code_of Usage = 2
code_of ReadFault = 3
code_of WriteFault = 4
code_of NoFile = 5
code_of Stuck = 6
code_of Spent = 7
code_of Asserted = 8
code_of NoMemory = 9
code_of NoTopology = 12

-- a call is done where its run was complete
abbrev pub status_of : Finish → Status
status_of Complete = Done
status_of finish.Stuck = Stuck
status_of finish.Spent = Spent
status_of finish.Asserted = Asserted
