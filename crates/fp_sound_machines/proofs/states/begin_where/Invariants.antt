use Rattle.std.proofs.Common.{◌≡◌, ℕ, Bool, Some, drop}
use Rattle.std.specs.Option.{option_cmp}
use Rattle.std.specs.Ordering.{nat_cmp}
use Rattle.std.specs.BTreeSet.{contains}
use Rattle.fp_tables.specs.Lists.{all_from}
use Rattle.fp_sound_machines.specs.Walks.{begins_where}
use Rattle.fp_tables.specs.declared.machine.Vertex.{Vertex}
use Rattle.fp_sound_machines.proofs.states.begin_where.Given as goal

abbrev pub invariant-loop-at : goal.invariant-loop-at
invariant-loop-at l =
    let test : ℕ → Vertex → Bool = λ at vertex. begins_where (contains (option_cmp nat_cmp) l.held (Some at)) vertex.node in
    all_from test 0 l.vertices ≡ all_from test l.at (drop l.at l.vertices)
