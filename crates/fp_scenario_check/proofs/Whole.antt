-- Where all is planned, no rule is broken.
use Rattle.std.proofs.Common.{◌≡◌, ◌⊎◌, inl, inr, ℕ, zero, suc, Bool, true, false, not, ◌&&◌, cond, List, [], ◌∷◌, ◌++◌, map, filter, flat_map, Option, Some, None, slice_get, option_and_then, refl, sym, ap, ◌∙◌, subst}
use Rattle.std.specs.Prelude.{find}
use Rattle.std.specs.List.{AllByRecursion}
use Rattle.std.specs.Str.{bytes_eq}
use Rattle.fp_base.proofs.Bools.{both, not_both}
use Rattle.fp_base.proofs.Options.{same_some}
use Rattle.fp_base.proofs.Lists.{of_item}
use Rattle.fp_base.specs.declared.rule.Rule.{Rule}
use Rattle.fp_tables.specs.Lists.{some_and}
use Rattle.fp_tables.specs.Lookup.{Described, placed}
use Rattle.fp_tables.specs.Positions.{component_of}
use Rattle.fp_tables.specs.Arguments.{Scope, nothing_bound}
use Rattle.fp_tables.specs.Programs.{bound_at}
use Rattle.fp_tables.specs.declared.component.Component.{Component}
use Rattle.fp_tables.specs.declared.program.Spot.{Spot}
use Rattle.fp_tables.specs.declared.program.Caller.{Caller}
use Rattle.fp_tables.specs.declared.program.Handler.{Handler}
use Rattle.fp_tables.specs.declared.program.Answers.{Answers}
use Rattle.fp_tables.specs.declared.topology.Instance.{Instance}
use Rattle.fp_scenario.specs.declared.scenario.Scenario.{Scenario}
use Rattle.fp_scenario.specs.declared.scenario.CallerText.{CallerText}
use Rattle.fp_scenario.specs.declared.scenario.HandlerText.{HandlerText}
use Rattle.fp_scenario.specs.declared.scenario.GuardText.{GuardText}
use Rattle.fp_scenario_actions.specs.Named.{placed_named}
use Rattle.fp_scenario_actions.specs.Spots.{spot_in}
use Rattle.fp_scenario_actions.specs.Listing.{ActsPlan, lacks_return}
use Rattle.fp_scenario_actions.proofs.Keeping.{acts_break_nothing}
use Rattle.fp_scenario_actions.proofs.KeepingCalls.{calls_break_nothing}
use Rattle.fp_scenario_check.specs.Planned.{Pairwise, PlansHandler, PlansCaller, PlansAnswers, IsRepeated, IsTooLarge, IsPlaceUnknown, IsUnknownGuard, IsUnknownHandler, nothing_named, no_place, no_place_of_component, Stands, Breaks, too_large, caller_repeated, handler_repeated, guard_repeated, handler_unknown, guard_unknown, in_caller, in_handler, return_missing, IsWhole, is_of, has_own, of_instance, stands_for, at_each, pairs, component_named, running_at, guard_at, same_caller, same_handler, same_guard}
use Rattle.fp_scenario_check.specs.Faults.{IdleFault}

-- ---- items that are planned

module _ {A B : Type 0} (P : A → B → Type 0) where
  pub each_planned : (xs : List A) (row : List B) → Pairwise P xs row → AllByRecursion (λ a. (b : B) × P a b) xs
  each_planned [] [] h = tt
  each_planned [] (b ∷ bs) h = absurd h
  each_planned (x ∷ xs) [] h = absurd h
  each_planned (x ∷ xs) (b ∷ bs) h = ((b, h.0), each_planned xs bs h.1)

module _ {A : Type 0} (Q : A → Type 0) where
  parted : (xs ys : List A) → AllByRecursion Q (xs ++ ys) → AllByRecursion Q xs × AllByRecursion Q ys
  parted [] ys h = (tt, h)
  parted (x ∷ xs) ys h = let rest = parted xs ys h.1 in ((h.0, rest.0), rest.1)

  in_part : {C : Type 0} (f : C → List A) (cs : List C) (n : ℕ) (c : C) → AllByRecursion Q (flat_map f cs) → slice_get cs n ≡ Some c → AllByRecursion Q (f c)
  in_part f [] n c h found = absurd cc
  in_part f (d ∷ ds) zero c h found = subst (λ e. AllByRecursion Q (f e)) (same_some found) (parted (f d) (flat_map f ds) h).0
  in_part f (d ∷ ds) (suc n) c h found = in_part f ds n c (parted (f d) (flat_map f ds) h).1 found

  of_mapped : {C : Type 0} (f : C → A) (cs : List C) → AllByRecursion Q (map f cs) → AllByRecursion (λ c. Q (f c)) cs
  of_mapped f [] h = tt
  of_mapped f (c ∷ cs) h = (h.0, of_mapped f cs h.1)

-- ---- handlers

module _ (t : Described) (scenario : Scenario) (handlers : List Handler) (planned : Pairwise (PlansHandler t) (pairs t scenario) handlers) where
  abbrev IsPlanned : HandlerText × ℕ → Type 0
  IsPlanned p = (x : Handler) × PlansHandler t p x

  abbrev at_one : HandlerText → ℕ → HandlerText × ℕ
  at_one h i = (h, i)

  planned_at : (n k i : ℕ) (h : HandlerText) → slice_get scenario.handlers n ≡ Some h → slice_get (stands_for t scenario h) k ≡ Some i → IsPlanned (h, i)
  planned_at n k i h found one =
      of_item (λ (j : ℕ). IsPlanned (h, j)) (stands_for t scenario h) k i
      (of_mapped IsPlanned (at_one h) (stands_for t scenario h)
      (in_part IsPlanned (at_each t scenario) scenario.handlers n h (each_planned (PlansHandler t) (pairs t scenario) handlers planned) found)) one

  pub record StandsPlanned (h : HandlerText) (i : ℕ) (c : Component) (place : Spot) (begins : Scope) : Type 0 where
    pub handler : Handler
    pub acts : ActsPlan t i c place begins h.do_ handler.acts
    pub returned : lacks_return t i c place h.do_ ≡ false

  stands_planned : (n : ℕ) (h : HandlerText) (i : ℕ) (c : Component) (place : Spot) (begins : Scope) → Stands t scenario n h i c place begins → StandsPlanned h i c place begins
  stands_planned n h i c place begins s =
      let found = planned_at n s.one i h s.handler s.of_these in
      let plan = found.1 in
      let same_component : plan.component ≡ c = same_some (sym plan.has ∙ s.component) in
      let at_place : spot_in t c h.on_ ≡ Some found.0.place = ap (λ d. spot_in t d h.on_) (sym same_component) ∙ plan.place in
      let same_place : found.0.place ≡ place = same_some (sym at_place ∙ s.at_place) in
      let formals : bound_at t i place ≡ Some plan.begins = ap (bound_at t i) (sym same_place) ∙ plan.formals in
      let same_begins : plan.begins ≡ begins = same_some (sym formals ∙ s.formals) in
      record {
        handler = found.0;
        acts = subst (λ b. ActsPlan t i c place b h.do_ found.0.acts) same_begins
            (subst (λ p. ActsPlan t i c p plan.begins h.do_ found.0.acts) same_place
            (subst (λ d. ActsPlan t i d found.0.place plan.begins h.do_ found.0.acts) same_component plan.acts));
        returned = subst (λ p. lacks_return t i c p h.do_ ≡ false) same_place (subst (λ d. lacks_return t i d found.0.place h.do_ ≡ false) same_component plan.returned);
      }

  place_known : (n k i : ℕ) (h : HandlerText) → slice_get scenario.handlers n ≡ Some h → slice_get (stands_for t scenario h) k ≡ Some i → IsPlaceUnknown t h i → ⊥
  place_known n k i h found one unknown =
      let plan = (planned_at n k i h found one).1 in
      some_none ((planned_at n k i h found one).0.place) (sym (ap (option_and_then (λ (c : Component). spot_in t c h.on_)) plan.has ∙ plan.place) ∙ unknown)
    where
      some_none : (p : Spot) → ◌≡◌ {A = Option Spot} (Some p) None → ⊥
      some_none p e = cc

-- ---- names that mean no component

module _ (t : Described) (name : List ℕ) where
  abbrev has_name : Component → Bool
  has_name c = bytes_eq c.name name

  head_unnamed : (b : Bool) (d : Component) (o : Option Component) → cond b (Some d) o ≡ None → b ≡ false
  head_unnamed true d o e = absurd cc
  head_unnamed false d o e = refl

  rest_unnamed : (b : Bool) (d : Component) (o : Option Component) → cond b (Some d) o ≡ None → o ≡ None
  rest_unnamed true d o e = absurd cc
  rest_unnamed false d o e = e

  none_named : (cs : List Component) (n : ℕ) (c : Component) → find has_name cs ≡ None → slice_get cs n ≡ Some c → has_name c ≡ false
  none_named [] n c none found = absurd cc
  none_named (d ∷ ds) zero c none found = subst (λ (x : Component). has_name x ≡ false) (same_some found) (head_unnamed (has_name d) d (find has_name ds) none)
  none_named (d ∷ ds) (suc n) c none found = none_named ds n c (rest_unnamed (has_name d) d (find has_name ds) none) found

  of_none : component_named t name ≡ None → (i : ℕ) → is_of t name i ≡ false
  of_none none i = by_component (component_of t.model i) refl
    where
      by_instance : (o : Option Instance) (c : Component) → option_and_then (λ (x : Instance). slice_get t.model.components x.component) o ≡ Some c → bytes_eq c.name name ≡ false
      by_instance None c e = absurd cc
      by_instance (Some x) c e = none_named t.model.components x.component c none e

      by_component : (o : Option Component) → component_of t.model i ≡ o → is_of t name i ≡ false
      by_component None e = ap (some_and (λ (c : Component). bytes_eq c.name name)) e
      by_component (Some c) e = ap (some_and (λ (c : Component). bytes_eq c.name name)) e ∙ by_instance (slice_get t.model.instances i) c e

  none_of_these : (test : ℕ → Bool) → ((i : ℕ) → is_of t name i ≡ false) → (is_ : List ℕ) → filter (λ i. is_of t name i && test i) is_ ≡ []
  none_of_these test none [] = refl
  none_of_these test none (i ∷ is_) = ap (λ (b : Bool). cond (b && test i) (i ∷ filter (λ j. is_of t name j && test j) is_) (filter (λ j. is_of t name j && test j) is_)) (none i) ∙ none_of_these test none is_

pub stands_for_none : (t : Described) (scenario : Scenario) (h : HandlerText) → placed_named t h.of ≡ None → component_named t h.of ≡ None → stands_for t scenario h ≡ []
stands_for_none t scenario h unplaced unnamed =
    ap (of_instance t scenario h) unplaced ∙ none_of_these t h.of (λ i. not (has_own t scenario h.on_ i)) (of_none t h.of unnamed) (placed t)

-- ---- guards

guard_known : (t : Described) (g : GuardText) (x : Answers) → PlansAnswers t g x → IsUnknownGuard t g → ⊥
guard_known t g x plan unknown =
    some_none x.guard
    (sym (ap (option_and_then (λ i. option_and_then (guard_at t g i) (running_at t g i))) plan.instance ∙ ap (option_and_then (guard_at t g x.instance)) plan.running ∙ plan.guard) ∙ unknown)
  where
    some_none : (n : ℕ) → ◌≡◌ {A = Option ℕ} (Some n) None → ⊥
    some_none n e = cc

-- ---- all rules

module _ (t : Described) (scenario : Scenario) where
  pub record IsChecked (callers : List Caller) (handlers : List Handler) (answers : List Answers) : Type 0 where
    pub small : IsTooLarge t → ⊥
    pub callers_planned : Pairwise (PlansCaller t) scenario.callers callers
    pub callers_differ : (n : ℕ) → IsRepeated same_caller scenario.callers n → ⊥
    pub handlers_planned : Pairwise (PlansHandler t) (pairs t scenario) handlers
    pub handlers_differ : (n : ℕ) → IsRepeated same_handler scenario.handlers n → ⊥
    pub handlers_known : (n : ℕ) (h : HandlerText) → slice_get scenario.handlers n ≡ Some h → IdleFault t h (stands_for t scenario h) → ⊥
    pub answers_planned : Pairwise (PlansAnswers t) scenario.guards answers
    pub guards_differ : (n : ℕ) → IsRepeated same_guard scenario.guards n → ⊥

  module _ (callers : List Caller) (handlers : List Handler) (answers : List Answers) (checked : IsChecked callers handlers answers) where
    handler_known : (n : ℕ) (h : HandlerText) → slice_get scenario.handlers n ≡ Some h → IsUnknownHandler t scenario h → ⊥
    handler_known n h found (nothing_named unplaced unnamed) = checked.handlers_known n h found (stands_for_none t scenario h unplaced unnamed, inl unnamed)
    handler_known n h found (no_place i k one unknown) = place_known t scenario handlers checked.handlers_planned n k i h found one unknown
    handler_known n h found (no_place_of_component c none named unknown) = checked.handlers_known n h found (none, inr (c, named, unknown))

    pub whole : IsWhole t scenario
    whole rule path (too_large h) = checked.small h
    whole rule path (caller_repeated n h) = checked.callers_differ n h
    whole rule path (handler_repeated n h) = checked.handlers_differ n h
    whole rule path (guard_repeated n h) = checked.guards_differ n h
    whole rule path (handler_unknown n h found unknown) = handler_known n h found unknown
    whole rule path (guard_unknown n g found unknown) =
        let x = of_item (λ (h : GuardText). (a : Answers) × PlansAnswers t h a) scenario.guards n g (each_planned (PlansAnswers t) scenario.guards answers checked.answers_planned) found in
        guard_known t g x.0 x.1 unknown
    whole rule path (in_caller broken n k x found breaks) =
        let plan = of_item (λ (h : CallerText). (c : Caller) × PlansCaller t h c) scenario.callers n x (each_planned (PlansCaller t) scenario.callers callers checked.callers_planned) found in
        calls_break_nothing t nothing_bound x.do_ plan.0.acts broken k plan.1.acts breaks
    whole rule path (in_handler broken n k i h c place begins stands breaks) =
        let s = stands_planned t scenario handlers checked.handlers_planned n h i c place begins stands in
        acts_break_nothing t i c place begins h.do_ s.handler.acts broken k s.acts breaks
    whole rule path (return_missing n i h c place begins stands lacks) =
        not_both lacks (stands_planned t scenario handlers checked.handlers_planned n h i c place begins stands).returned
