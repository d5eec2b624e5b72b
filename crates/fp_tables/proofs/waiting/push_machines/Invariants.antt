use Rattle.std.proofs.Common.{◌≡◌, ◌++◌, take}
use Rattle.std.specs.Prelude.{flat_map}
use Rattle.fp_tables.specs.SoundPrograms.{priority_of}
use Rattle.fp_tables.specs.declared.component.Running.{Running}
use Rattle.fp_tables.proofs.waiting.push_machines.Given as goal

abbrev pub invariant-loop-running : goal.invariant-loop-running
invariant-loop-running l = l.priorities.items ≡ l.initial.priorities.items ++ flat_map (λ (running : Running). priority_of running.way) (take l.running-index l.machines)
