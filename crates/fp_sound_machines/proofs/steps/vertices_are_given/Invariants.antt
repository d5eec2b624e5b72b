use Rattle.std.proofs.Common.{◌≡◌, drop}
use Rattle.std.specs.List.{list_all}
use Rattle.fp_tables.specs.Machines.{vertex_is_given}
use Rattle.fp_sound_machines.proofs.steps.vertices_are_given.Given as goal

abbrev pub invariant-loop-vertex : goal.invariant-loop-vertex
invariant-loop-vertex l = list_all (vertex_is_given l.types l.machine) l.vertices ≡ list_all (vertex_is_given l.types l.machine) (drop l.vertex-index l.vertices)
