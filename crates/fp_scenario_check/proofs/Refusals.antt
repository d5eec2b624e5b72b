-- The lists of a scenario, each refused for what the scenario is.
use Rattle.std.proofs.Common.{◌≡◌, ℕ, Bool, List, [], codes, Option, Some, None, subst}
use Rattle.fp_base.specs.declared.rule.Rule.{Rule}
use Rattle.fp_base.specs.declared.rule.Rule.TheVariants.{ScenarioRepeated}
use Rattle.fp_tables.specs.Lookup.{Described}
use Rattle.fp_scenario.specs.Checked.{Stops, StopsBelow}
use Rattle.fp_scenario.specs.declared.scenario.Scenario.{Scenario}
use Rattle.fp_scenario.specs.declared.scenario.CallerText.{CallerText}
use Rattle.fp_scenario.specs.declared.scenario.HandlerText.{HandlerText}
use Rattle.fp_scenario.specs.declared.scenario.GuardText.{GuardText}
use Rattle.fp_scenario.specs.declared.scenario.ScenarioStop.{ScenarioStop}
use Rattle.fp_scenario_check.specs.Planned.{Breaks, IsRepeated, caller_repeated, handler_repeated, guard_repeated, at_item, same_caller, same_handler, same_guard}
use Rattle.fp_scenario_check.specs.Faults.{IsStop, InItem, CallerFault, GuardFault, TextFault}
use Rattle.fp_scenario_check.specs.Keys.{IsRepeat}
use Rattle.fp_scenario_check.proofs.Refusing.{in_callers, in_guards, in_handlers}
use Rattle.fp_scenario_check.proofs.Stopping.{stopped, lifted}

repeat_at : {A : Type 0} (same : A → A → Bool) (xs ys : List A) (o : Option ℕ) (n : ℕ) → xs ≡ ys → o ≡ Some n → IsRepeat same xs o → IsRepeated same ys n
repeat_at same xs ys o n e is h = subst (λ zs. IsRepeated same zs n) e (subst (λ p. IsRepeat same xs p) is h)

pub no_repeat : {A : Type 0} (same : A → A → Bool) (xs ys : List A) (o : Option ℕ) → xs ≡ ys → o ≡ None → IsRepeat same xs o → (n : ℕ) → IsRepeated same ys n → ⊥
no_repeat same xs ys o e is h = subst (λ zs. (n : ℕ) → IsRepeated same zs n → ⊥) e (subst (λ p. IsRepeat same xs p) is h)

module _ (t : Described) (scenario : Scenario) where
  pub callers_repeated : (texts : List CallerText) (o : Option ℕ) (n : ℕ) (stop : ScenarioStop) → texts ≡ scenario.callers → o ≡ Some n → IsRepeat same_caller texts o → Stops ScenarioRepeated (at_item (codes "callers") n []) stop → IsStop (Breaks t scenario) stop
  callers_repeated texts o n stop e is h stops =
      stopped (Breaks t scenario) ScenarioRepeated (at_item (codes "callers") n []) stop stops (caller_repeated n (repeat_at same_caller texts scenario.callers o n e is h))

  pub callers_stopped : (texts : List CallerText) (stop seen : ScenarioStop) → texts ≡ scenario.callers → IsStop (InItem (CallerFault t) texts) stop → StopsBelow (codes "callers") stop seen → IsStop (Breaks t scenario) seen
  callers_stopped texts stop seen e h is =
      lifted (InItem (CallerFault t) scenario.callers) (Breaks t scenario) (codes "callers") stop seen is (in_callers t scenario)
      (subst (λ xs. IsStop (InItem (CallerFault t) xs) stop) e h)

  pub guards_repeated : (texts : List GuardText) (o : Option ℕ) (n : ℕ) (stop : ScenarioStop) → texts ≡ scenario.guards → o ≡ Some n → IsRepeat same_guard texts o → Stops ScenarioRepeated (at_item (codes "guards") n []) stop → IsStop (Breaks t scenario) stop
  guards_repeated texts o n stop e is h stops =
      stopped (Breaks t scenario) ScenarioRepeated (at_item (codes "guards") n []) stop stops (guard_repeated n (repeat_at same_guard texts scenario.guards o n e is h))

  pub guards_stopped : (texts : List GuardText) (stop seen : ScenarioStop) → texts ≡ scenario.guards → IsStop (InItem (GuardFault t) texts) stop → StopsBelow (codes "guards") stop seen → IsStop (Breaks t scenario) seen
  guards_stopped texts stop seen e h is =
      lifted (InItem (GuardFault t) scenario.guards) (Breaks t scenario) (codes "guards") stop seen is (in_guards t scenario)
      (subst (λ xs. IsStop (InItem (GuardFault t) xs) stop) e h)

  pub handlers_repeated : (texts : List HandlerText) (o : Option ℕ) (n : ℕ) (stop : ScenarioStop) → texts ≡ scenario.handlers → o ≡ Some n → IsRepeat same_handler texts o → Stops ScenarioRepeated (at_item (codes "handlers") n []) stop → IsStop (Breaks t scenario) stop
  handlers_repeated texts o n stop e is h stops =
      stopped (Breaks t scenario) ScenarioRepeated (at_item (codes "handlers") n []) stop stops (handler_repeated n (repeat_at same_handler texts scenario.handlers o n e is h))

  pub handlers_stopped : (texts : List HandlerText) (stop seen : ScenarioStop) → texts ≡ scenario.handlers → IsStop (InItem (TextFault t scenario) texts) stop → StopsBelow (codes "handlers") stop seen → IsStop (Breaks t scenario) seen
  handlers_stopped texts stop seen e h is =
      lifted (InItem (TextFault t scenario) scenario.handlers) (Breaks t scenario) (codes "handlers") stop seen is (in_handlers t scenario)
      (subst (λ xs. IsStop (InItem (TextFault t scenario) xs) stop) e h)
