-- What a part is refused for, the scenario is.
use Rattle.std.proofs.Common.{◌≡◌, ◌⊎◌, inl, inr, ℕ, List, [], ◌∷◌, decimal, codes, Option, Some, None, Result, Ok, Err, IfErr, IsErrAnd, slice_get, refl, sym, ap, ◌∙◌, subst}
use Rattle.fp_base.specs.declared.rule.Rule.{Rule}
use Rattle.fp_base.specs.declared.rule.Rule.TheVariants.{PastSize, UnknownName, ScenarioRepeated, BadReturn}
use Rattle.fp_tables.specs.Lookup.{Described}
use Rattle.fp_tables.specs.declared.program.Program.{Program}
use Rattle.fp_scenario.specs.Broken.{below}
use Rattle.fp_scenario.specs.Checked.{Stops}
use Rattle.fp_scenario.specs.declared.scenario.Scenario.{Scenario}
use Rattle.fp_scenario.specs.declared.scenario.HandlerText.{HandlerText}
use Rattle.fp_scenario.specs.declared.scenario.ScenarioStop.{ScenarioStop}
use Rattle.fp_scenario.specs.declared.scenario.ScenarioStop.TheVariants.{Broken, NoMemory}
use Rattle.fp_scenario_actions.specs.Named.{placed_named}
use Rattle.fp_scenario_check.specs.Planned as plan
use Rattle.fp_scenario_check.specs.Planned.{Planned, Breaks, IsTooLarge, IsUnknownHandler, of_instance, stands_for, caller_path, handler_path, guard_path, action_path, list_path}
use Rattle.fp_scenario_check.specs.Broken.{IsRefusal}
use Rattle.fp_scenario_check.specs.Faults.{IsStop, InItem, CallerFault, GuardFault, TextFault, HandlerFault, ListFault, no_place, in_list, in_action, return_missing, IdleFault, counts}
use Rattle.fp_scenario_check.proofs.Stopping.{stopped}
use Rattle.fp_scenario_check.proofs.Counting.{CycleFault}

module _ (t : Described) (scenario : Scenario) where
  along : (rule : Rule) (path other : List ℕ) → path ≡ other → Breaks t scenario rule other → Breaks t scenario rule path
  along rule path other is h = subst (λ p. Breaks t scenario rule p) (sym is) h

  pub in_callers : (rule : Rule) (path : List ℕ) → InItem (CallerFault t) scenario.callers rule path → Breaks t scenario rule (below (codes "callers") path)
  in_callers rule path (n, x, rest, here, is, (k, rest_is, breaks)) =
      along rule (below (codes "callers") path) (caller_path n (action_path k)) (ap (below (codes "callers")) (is ∙ ap (below (decimal n)) rest_is)) (plan.in_caller rule n k x here breaks)

  pub in_guards : (rule : Rule) (path : List ℕ) → InItem (GuardFault t) scenario.guards rule path → Breaks t scenario rule (below (codes "guards") path)
  in_guards rule path (n, x, rest, here, is, (rule_is, rest_is, unknown)) =
      along rule (below (codes "guards") path) (guard_path n) (ap (below (codes "guards")) (is ∙ ap (below (decimal n)) rest_is))
      (subst (λ r. Breaks t scenario r (guard_path n)) (sym rule_is) (plan.guard_unknown n x here unknown))

  -- ---- handlers

  unplaced : (h : HandlerText) (o : Option ℕ) → of_instance t scenario h o ≡ [] → o ≡ None
  unplaced h None e = refl
  unplaced h (Some i) e = absurd (some_left i e)
    where
      some_left : (i : ℕ) → ◌≡◌ {A = List ℕ} (i ∷ []) [] → ⊥
      some_left i e = cc

  idle : (h : HandlerText) → IdleFault t h (stands_for t scenario h) → IsUnknownHandler t scenario h
  idle h (none, inl unnamed) = plan.nothing_named (unplaced h (placed_named t h.of) none) unnamed
  idle h (none, inr (c, named, unknown)) = plan.no_place_of_component c none named unknown

  at_instance : (n k i : ℕ) (h : HandlerText) (rule : Rule) (path : List ℕ) → slice_get scenario.handlers n ≡ Some h → slice_get (stands_for t scenario h) k ≡ Some i → HandlerFault t h i rule path → Breaks t scenario rule (handler_path n path)
  at_instance n k i h rule path here one (no_place unknown) = plan.handler_unknown n h here (plan.no_place i k one unknown)
  at_instance n k i h rule path here one (in_list c place begins r p has spot formals (in_action s m breaks)) =
      plan.in_handler s n m i h c place begins (record { handler = here; one = k; of_these = one; component = has; at_place = spot; formals = formals }) breaks
  at_instance n k i h rule path here one (in_list c place begins r p has spot formals (return_missing lacks)) =
      plan.return_missing n i h c place begins (record { handler = here; one = k; of_these = one; component = has; at_place = spot; formals = formals }) lacks

  pub in_handlers : (rule : Rule) (path : List ℕ) → InItem (TextFault t scenario) scenario.handlers rule path → Breaks t scenario rule (below (codes "handlers") path)
  in_handlers rule path (n, h, rest, here, is, inl (rule_is, rest_is, fault)) =
      along rule (below (codes "handlers") path) (handler_path n []) (ap (below (codes "handlers")) (is ∙ ap (below (decimal n)) rest_is))
      (subst (λ r. Breaks t scenario r (handler_path n [])) (sym rule_is) (plan.handler_unknown n h here (idle h fault)))
  in_handlers rule path (n, h, rest, here, is, inr (k, i, one, fault)) =
      along rule (below (codes "handlers") path) (handler_path n rest) (ap (below (codes "handlers")) is) (at_instance n k i h rule rest here one fault)

  pub too_large : (rule : Rule) (path : List ℕ) → (rule ≡ PastSize) × (path ≡ codes "/") × IsTooLarge t → Breaks t scenario rule path
  too_large rule path (rule_is, path_is, large) = along rule path (codes "/") path_is (subst (λ r. Breaks t scenario r (codes "/")) (sym rule_is) (plan.too_large large))

  -- ---- refusals

  pub refused : (stop : ScenarioStop) → IsStop (Breaks t scenario) stop → IsRefusal t scenario stop
  refused (Broken stop) h = inl h
  refused NoMemory h = tt

  pub refused_for_cycle : (program : Program) (ks : List ℕ) (stop : ScenarioStop) → Planned t scenario program → ks ≡ counts t scenario scenario.handlers → IsStop (CycleFault t program ks) stop → IsRefusal t scenario stop
  refused_for_cycle program ks (Broken stop) planned counted h = inr (program, planned, h scenario planned counted)
  refused_for_cycle program ks NoMemory planned counted h = tt

  pub refused_by : {A : Type 0} (r : Result A ScenarioStop) (stop : ScenarioStop) → IsErrAnd r (λ y. y ≡ stop) → IsRefusal t scenario stop → IfErr r (IsRefusal t scenario)
  refused_by (Ok a) stop e h = tt
  refused_by (Err y) stop e h = subst (λ s. IsRefusal t scenario s) (sym e) h
