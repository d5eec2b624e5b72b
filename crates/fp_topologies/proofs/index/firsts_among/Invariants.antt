use Rattle.std.proofs.Common.{◌≡◌, ℕ, List, take}
use Rattle.std.specs.Prelude.{position}
use Rattle.std.specs.Str.{bytes_eq}
use Rattle.fp_tables.specs.declared.component.Port.{Port}
use Rattle.fp_topologies.specs.Firsts.{first_named}
use Rattle.fp_topologies.proofs.index.firsts_among.Given as goal

abbrev pub invariant-loop-at : goal.invariant-loop-at
invariant-loop-at l = (name : List ℕ) → first_named l.firsts name ≡ position (λ (p : Port). bytes_eq p.name name) (take l.at l.ports)
