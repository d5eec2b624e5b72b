use Rattle.std.proofs.Common.{◌≡◌, ◌-◌}
use Rattle.fp_tables.specs.Machines.{target_by, target}
use Rattle.fp_tables.proofs.kinds.target.Given as goal

abbrev pub invariant-aliases : goal.invariant-aliases
invariant-aliases l = target l.types l.fn.kind ≡ target_by l.types (l.end - l.counter) l.target
