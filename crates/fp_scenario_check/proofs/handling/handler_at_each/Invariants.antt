use Rattle.std.proofs.Common.{take}
use Rattle.fp_tables.specs.declared.program.Handler.{Handler}
use Rattle.fp_scenario_check.specs.Planned.{Pairwise, PlansHandler}
use Rattle.fp_scenario_check.proofs.handling.handler_at_each.Given as goal

abbrev pub invariant-loop-instance : goal.invariant-loop-instance
invariant-loop-instance l = Pairwise (λ i x. PlansHandler l.tables (l.text, i) x) (take l.instance-index l.instances) l.row
