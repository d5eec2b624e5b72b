-- Where no other rule is broken, a cycle of any program that the scenario stands for is one of the program at hand.
use Rattle.std.proofs.Common.{◌≡◌, ◌⊎◌, inl, inr, ℕ, List, sym, subst}
use Rattle.fp_base.specs.declared.rule.Rule.{Rule}
use Rattle.fp_tables.specs.Lookup.{Described}
use Rattle.fp_tables.specs.declared.program.Act.{Act}
use Rattle.fp_tables.specs.declared.program.Handler.{Handler}
use Rattle.fp_tables.specs.declared.program.Program.{Program}
use Rattle.fp_reach.specs.Cycles.{Acts, Edge, of_action, Takes, action_takes, Holds, holds, HasNoCycle, HasNoLockCycle, IsOnCycle, IsOnLockCycle, TakesAlong, itself, through}
use Rattle.fp_reach.specs.Reaching.{Reaches, once, Comes}
use Rattle.fp_reach.specs.declared.node.Node.{Node}
use Rattle.fp_reach.specs.declared.node.Node.TheVariants.{At}
use Rattle.fp_reach.specs.declared.node.Lock.{Lock}
use Rattle.fp_reach.proofs.Amid.{join_comes, comes_comes}
use Rattle.fp_scenario.specs.declared.scenario.Scenario.{Scenario}
use Rattle.fp_scenario_check.specs.Planned.{Planned, IsWhole}
use Rattle.fp_scenario_check.specs.Broken.{BreaksCycle, synchronous, of_locks, BreaksNothing}

module _ (t : Described) (program : Program) (n k : ℕ) (h : Handler) (a : Act) (acts : Acts t program n k h a) where
  not_on_cycle : HasNoCycle t program → IsOnCycle t program h a → ⊥
  not_on_cycle none (v, leads, comes) = none (At h.instance h.place) (join_comes (once (of_action acts leads)) comes)

  taking : (i : ℕ) (place : _) (m : Lock) → Comes (Edge t program) (At i place) (At h.instance h.place) → TakesAlong t program h.instance a m → (v : Node) × Comes (Edge t program) (At i place) v × Takes t program v m
  taking i place m reached (itself taken) = (At h.instance h.place, reached, action_takes acts taken)
  taking i place m reached (through {w = w} leads comes takes) = (w, comes_comes reached (inr (join_comes (once (of_action acts leads)) comes)), takes)

  not_on_lock_cycle : HasNoLockCycle t program → IsOnLockCycle t program h a → ⊥
  not_on_lock_cycle none on =
      let s = taking on.instance on.place on.next on.reached on.taken in
      none on.lock (join_comes (once (holds on.instance on.place on.opening s.1 s.2)) on.back)

module _ (t : Described) (scenario : Scenario) where
  no_cycle_broken : (program : Program) → HasNoCycle t program → HasNoLockCycle t program → (rule : Rule) (path : List ℕ) → BreaksCycle t scenario program rule path → ⊥
  no_cycle_broken program none no_lock rule path (synchronous n k m h a acts on text) = not_on_cycle t program n k h a acts none on
  no_cycle_broken program none no_lock rule path (of_locks n k m h a acts on text) = not_on_lock_cycle t program n k h a acts no_lock on

  pub breaks_nothing : (program : Program) → ((other : Program) → Planned t scenario other → program ≡ other) → HasNoCycle t program → HasNoLockCycle t program → IsWhole t scenario → BreaksNothing t scenario
  breaks_nothing program one none no_lock whole rule path (inl breaks) = whole rule path breaks
  breaks_nothing program one none no_lock whole rule path (inr (other, planned, breaks)) =
      no_cycle_broken program none no_lock rule path (subst (λ (p : Program). BreaksCycle t scenario p rule path) (sym (one other planned)) breaks)
