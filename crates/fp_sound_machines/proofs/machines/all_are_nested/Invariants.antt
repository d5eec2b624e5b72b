use Rattle.std.proofs.Common.{◌≡◌, ℕ, drop}
use Rattle.fp_tables.specs.Lists.{all_from}
use Rattle.fp_tables.specs.Machines.{is_nested_by}
use Rattle.fp_tables.specs.declared.machine.Vertex.{Vertex}
use Rattle.fp_sound_machines.proofs.machines.all_are_nested.Given as goal

abbrev pub invariant-loop-at : goal.invariant-loop-at
invariant-loop-at l =
    all_from (λ (vertex : ℕ) (_ : Vertex). is_nested_by l.vertices 16 vertex) 0 l.vertices ≡ all_from (λ (vertex : ℕ) (_ : Vertex). is_nested_by l.vertices 16 vertex) l.at (drop l.at l.vertices)
