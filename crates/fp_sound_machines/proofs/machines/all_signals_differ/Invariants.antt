use Rattle.std.proofs.Common.{◌≡◌, drop}
use Rattle.std.specs.List.{list_all}
use Rattle.fp_tables.specs.Machines.{signals_differ}
use Rattle.fp_sound_machines.proofs.machines.all_signals_differ.Given as goal

abbrev pub invariant-loop-vertex : goal.invariant-loop-vertex
invariant-loop-vertex l = list_all signals_differ l.vertices ≡ list_all signals_differ (drop l.vertex-index l.vertices)
