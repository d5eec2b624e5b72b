use Rattle.std.proofs.Common.{◌≡◌, take, map}
use Rattle.fp_tables.specs.declared.kind.Formal.{Formal}
use Rattle.fp_events.specs.Lookup.{default_of}
use Rattle.fp_actor.proofs.asks.defaults.Given as goal

abbrev pub invariant-loop-formal : goal.invariant-loop-formal
invariant-loop-formal l = l.values ≡ map (λ (f : Formal). default_of l.tables f.kind) (take l.formal-index l.formals)
