use Rattle.std.proofs.Common.{◌≡◌, take}
use Rattle.fp_events.specs.Due.{values}
use Rattle.fp_actor.specs.Stacked.{bindings_of}
use Rattle.fp_actor.proofs.view.View.arguments.Given as goal

abbrev pub invariant-loop-arg : goal.invariant-loop-arg
invariant-loop-arg l = l.values ≡ values (bindings_of l.self.tables.now l.self.program.now l.self.number l.self.trace.now l.bindings l.level) (take l.arg-index l.args)
