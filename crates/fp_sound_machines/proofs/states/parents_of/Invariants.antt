use Rattle.std.proofs.Common.{◌≡◌, map, take}
use Rattle.fp_tables.specs.declared.machine.Vertex.{Vertex}
use Rattle.fp_sound_machines.proofs.states.parents_of.Given as goal

abbrev pub invariant-loop-vertex : goal.invariant-loop-vertex
invariant-loop-vertex l = l.parents.items ≡ map (λ (vertex : Vertex). vertex.parent) (take l.vertex-index l.vertices)
