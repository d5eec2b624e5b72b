use Rattle.std.proofs.Common.{◌≡◌, Some, subst}
use Rattle.fp_reach.specs.Cycles.{IsCycle}
use Rattle.fp_reach.specs.declared.cycles.Cycle.TheVariants.{Synchronous, Locks}
use Rattle.fp_scenario_check.proofs.Counting.{synchronous_stops, locks_stop}
use Rattle.fp_scenario_check.proofs.cycles.check_cycles.Goals as goal

pub returns-in-Some-Synchronous-clause-broken : goal.returns-in-Some-Synchronous-clause-broken
returns-in-Some-Synchronous-clause-broken c =
    let is : c.in_ok-ring.field-0 ≡ Some (Synchronous c.in-Some-Synchronous.ring) = cc in
    synchronous_stops c.args.tables.now c.args.program.now c.args.counts.now c.in-Some-Synchronous.ring c.stop_at_ring.result (subst (λ o. IsCycle c.args.tables.now c.args.program.now o) is c.in_ok-ring.ensures) c.stop_at_ring.ensures

pub returns-in-Some-Locks-clause-broken : goal.returns-in-Some-Locks-clause-broken
returns-in-Some-Locks-clause-broken c =
    let is : c.in_ok-ring.field-0 ≡ Some (Locks c.in-Some-Locks.ring) = cc in
    locks_stop c.args.tables.now c.args.program.now c.args.counts.now c.in-Some-Locks.ring c.stop_at_ring-in-Some-Locks.result (subst (λ o. IsCycle c.args.tables.now c.args.program.now o) is c.in_ok-ring.ensures) c.stop_at_ring-in-Some-Locks.ensures
