-- A handler at all the instances that it stands for.
use Rattle.std.proofs.Common.{◌≡◌, ◌⊎◌, inl, inr, ℕ, List, [], map, decimal, Some, Ok, Err, Result, IfOk, IfErr, slice_get, refl, sym, subst}
use Rattle.std.proofs.lemmas.Result.{IfOk-weaker}
use Rattle.std.specs.BTreeSet.{BTreeSet}
use Rattle.fp_base.specs.declared.rule.Rule.{Rule}
use Rattle.fp_base.specs.declared.rule.Rule.TheVariants.{UnknownName}
use Rattle.fp_tables.specs.Lookup.{Described}
use Rattle.fp_tables.specs.declared.program.Handler.{Handler}
use Rattle.fp_scenario.specs.Checked.{StopsBelow}
use Rattle.fp_scenario.specs.declared.scenario.Scenario.{Scenario}
use Rattle.fp_scenario.specs.declared.scenario.HandlerText.{HandlerText}
use Rattle.fp_scenario.specs.declared.scenario.ScenarioStop.{ScenarioStop}
use Rattle.fp_scenario_check.specs.Planned.{Pairwise, PlansHandler, at_each, stands_for}
use Rattle.fp_scenario_check.specs.Faults.{IsStop, InItem, TextFault, IdleFault, FaultAtOne}
use Rattle.fp_scenario_check.specs.Keys.{Owned, AreOwned}
use Rattle.fp_scenario_check.proofs.AtEach.{at_one}
use Rattle.fp_scenario_check.proofs.Stopping.{lifted, weaker}

module _ (t : Described) (owned : BTreeSet Owned) (h : HandlerText) where
  abbrev pub StandsFor : List ℕ → Type 0
  StandsFor instances = (scenario : Scenario) → AreOwned t scenario owned → instances ≡ stands_for t scenario h

  -- the handler has the fault in each scenario with these handlers of instances' own
  abbrev pub HasFault : Rule → List ℕ → Type 0
  HasFault rule path = (scenario : Scenario) → AreOwned t scenario owned → TextFault t scenario h rule path

  pub idle_refused : (instances : List ℕ) → StandsFor instances → (rule : Rule) (path : List ℕ) → (rule ≡ UnknownName) × (path ≡ []) × IdleFault t h instances → HasFault rule path
  idle_refused instances is rule path (of_rule, of_path, fault) = λ scenario owns. inl (of_rule, of_path, subst (IdleFault t h) (is scenario owns) fault)

  one_refused : (instances : List ℕ) → StandsFor instances → (rule : Rule) (path : List ℕ) → FaultAtOne t h instances rule path → HasFault rule path
  one_refused instances is rule path fault = λ scenario owns. inr (subst (λ (ns : List ℕ). FaultAtOne t h ns rule path) (is scenario owns) fault)

  pub refused_at_one : {A : Type 0} (instances : List ℕ) → StandsFor instances → (r : Result A ScenarioStop) → IfErr r (IsStop (FaultAtOne t h instances)) → IfErr r (IsStop HasFault)
  refused_at_one instances is (Ok row) k = tt
  refused_at_one instances is (Err stop) k = weaker (FaultAtOne t h instances) HasFault stop (one_refused instances is) k

  pub planned_at_each : (instances : List ℕ) → StandsFor instances → (r : Result (List Handler) ScenarioStop) → IfOk r (Pairwise (PlansHandler t) (map (at_one h) instances))
      → IfOk r (λ (row : List Handler). (scenario : Scenario) → AreOwned t scenario owned → Pairwise (PlansHandler t) (at_each t scenario h) row)
  planned_at_each instances is r k = IfOk-weaker r _ _ (λ row p scenario owns. subst (λ (ns : List ℕ). Pairwise (PlansHandler t) (map (at_one h) ns) row) (is scenario owns) p) k

  pub not_idle : {A : Type 0} (instances : List ℕ) → StandsFor instances → (IdleFault t h instances → ⊥) → (r : Result A ScenarioStop)
      → IfOk r (λ row. (scenario : Scenario) → AreOwned t scenario owned → IdleFault t h (stands_for t scenario h) → ⊥)
  not_idle instances is k (Ok row) = λ scenario owns fault. k (subst (IdleFault t h) (sym (is scenario owns)) fault)
  not_idle instances is k (Err stop) = tt

module _ (t : Described) (owned : BTreeSet Owned) (texts : List HandlerText) where
  abbrev pub HaveFault : Rule → List ℕ → Type 0
  HaveFault rule path = (scenario : Scenario) → AreOwned t scenario owned → InItem (TextFault t scenario) texts rule path

  pub item_refused : (n : ℕ) (h : HandlerText) (stop seen : ScenarioStop) → slice_get texts n ≡ Some h → StopsBelow (decimal n) stop seen → IsStop (HasFault t owned h) stop → IsStop HaveFault seen
  item_refused n h stop seen here is broken =
      lifted (HasFault t owned h) HaveFault (decimal n) stop seen is (λ rule path fault scenario owns. (n, h, path, here, refl, fault scenario owns)) broken
