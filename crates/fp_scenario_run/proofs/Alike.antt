-- Scenarios that can't be told apart stand for the same programs, and break the same rules at the same paths.
use Rattle.std.proofs.Common.{◌≡◌, ℕ, suc, Bool, false, not, ◌&&◌, ◌||◌, ◌==◌, List, [], ◌∷◌, ◌++◌, map, filter, flat_map, Option, Some, None, slice_get, option_and_then, inl, inr, refl, sym, ap, ap₂, ◌∙◌, subst}
use Rattle.std.specs.List.{list_any}
use Rattle.std.specs.Str.{bytes_eq}
use Rattle.fp_base.specs.declared.rule.Rule.{Rule}
use Rattle.fp_tables.specs.Lists.{some_and}
use Rattle.fp_tables.specs.Lookup.{Described, placed}
use Rattle.fp_tables.specs.Positions.{component_of}
use Rattle.fp_tables.specs.Arguments.{Scope, nothing_bound}
use Rattle.fp_tables.specs.Programs.{bound_at}
use Rattle.fp_tables.specs.declared.component.Component.{Component}
use Rattle.fp_tables.specs.declared.program.Spot.{Spot}
use Rattle.fp_tables.specs.declared.program.Caller.{Caller}
use Rattle.fp_tables.specs.declared.program.Handler.{Handler}
use Rattle.fp_tables.specs.declared.program.Program.{Program}
use Rattle.fp_scenario.specs.Same.{Paired, IsSameCaller, IsSameHandler, IsSameGuard, IsSame}
use Rattle.fp_scenario.specs.declared.scenario.Scenario.{Scenario}
use Rattle.fp_scenario.specs.declared.scenario.CallerText.{CallerText}
use Rattle.fp_scenario.specs.declared.scenario.HandlerText.{HandlerText}
use Rattle.fp_scenario.specs.declared.scenario.GuardText.{GuardText}
use Rattle.fp_scenario_actions.specs.Named.{placed_named}
use Rattle.fp_scenario_actions.specs.Spots.{spot_in}
use Rattle.fp_scenario_actions.specs.Listing.{ActsPlan, lacks_return}
use Rattle.fp_scenario_check.specs.Planned.{Pairwise, IsRepeated, PlansCaller, PlansAnswers, same_guard, PlansHandler, Planned, IsUnknownHandler, nothing_named, no_place, no_place_of_component, Stands, Breaks, too_large, caller_repeated, handler_repeated, guard_repeated, handler_unknown, guard_unknown, in_caller, in_handler, return_missing, is_of, has_own, of_instance, stands_for, at_each, pairs, component_named, same_caller, same_handler}
use Rattle.fp_scenario_check.specs.Broken.{texts_from, BreaksCycle, synchronous, of_locks, IsScenarioBroken}
use Rattle.fp_scenario_check.proofs.AtEach.{at_one}
use Rattle.fp_scenario_run.proofs.Paired.{beside, paired_append, planned_beside, repeated_beside}
use Rattle.fp_scenario_run.proofs.AlikeActs.{acts_plan, acts_break, lacks_alike}
use Rattle.fp_scenario_run.proofs.AlikeCalls.{calls_plan, calls_break}

-- ---- guards, which hold no JSON value, are equal

guard_alike : (g k : GuardText) → IsSameGuard g k → g ≡ k
guard_alike g k h = λ j. record { of = h.of j; machine = h.machine j; guard = h.guard_name j; answers = h.answers j }

guards_alike : (gs ks : List GuardText) → Paired IsSameGuard gs ks → gs ≡ ks
guards_alike [] [] h = refl
guards_alike [] (k ∷ ks) h = absurd h
guards_alike (g ∷ gs) [] h = absurd h
guards_alike (g ∷ gs) (k ∷ ks) h = ap₂ (λ (b : GuardText) (bs : List GuardText). b ∷ bs) (guard_alike g k h.0) (guards_alike gs ks h.1)

same_callers : (x y u v : CallerText) → IsSameCaller x y → IsSameCaller u v → same_caller x u ≡ same_caller y v
same_callers x y u v h k = ap₂ bytes_eq h.name k.name

same_handlers : (x y u v : HandlerText) → IsSameHandler x y → IsSameHandler u v → same_handler x u ≡ same_handler y v
same_handlers x y u v h k = ap₂ (λ p q. p && q) (ap₂ bytes_eq h.of k.of) (ap₂ bytes_eq h.on_ k.on_)

-- a handler at an instance, and its like there
abbrev pub IsSamePair : HandlerText × ℕ → HandlerText × ℕ → Type 0
IsSamePair p q = IsSameHandler p.0 q.0 × (p.1 ≡ q.1)

module _ (t : Described) where
  caller_plan : (k l : CallerText) (x : Caller) → IsSameCaller k l → PlansCaller t k x → PlansCaller t l x
  caller_plan k l x h p = record { name = p.name ∙ h.name; acts = calls_plan t nothing_bound k.do_ l.do_ x.acts h.do_ p.acts }

  handler_plan : (p q : HandlerText × ℕ) (x : Handler) → IsSamePair p q → PlansHandler t p x → PlansHandler t q x
  handler_plan p q x h k = record {
    instance = k.instance ∙ h.1;
    component = k.component;
    has = subst (λ i. component_of t.model i ≡ Some k.component) h.1 k.has;
    place = subst (λ on. spot_in t k.component on ≡ Some x.place) h.0.on_ k.place;
    begins = k.begins;
    formals = subst (λ i. bound_at t i x.place ≡ Some k.begins) h.1 k.formals;
    acts = subst (λ i. ActsPlan t i k.component x.place k.begins q.0.do_ x.acts) h.1 (acts_plan t p.1 k.component x.place k.begins p.0.do_ q.0.do_ x.acts h.0.do_ k.acts);
    returned = subst (λ i. lacks_return t i k.component x.place q.0.do_ ≡ false) h.1 (sym (lacks_alike t p.1 k.component x.place p.0.do_ q.0.do_ h.0.do_) ∙ k.returned);
  }

  -- ---- the instances that a handler stands for

  -- the handler is the instance's own, for the place
  abbrev pub own_at : List ℕ → ℕ → List ℕ → List ℕ → Bool
  own_at on i of its = bytes_eq its on && some_and (λ j. j == i) (placed_named t of)

  own_alike : (on : List ℕ) (i : ℕ) (hs ks : List HandlerText) → Paired IsSameHandler hs ks → list_any (λ (g : HandlerText). own_at on i g.of g.on_) hs ≡ list_any (λ (g : HandlerText). own_at on i g.of g.on_) ks
  own_alike on i [] [] h = refl
  own_alike on i [] (k ∷ ks) h = absurd h
  own_alike on i (g ∷ gs) [] h = absurd h
  own_alike on i (g ∷ gs) (k ∷ ks) h = ap₂ (λ p q. p || q) (ap₂ (own_at on i) h.0.of h.0.on_) (own_alike on i gs ks h.1)

  module _ (a b : Scenario) (same : IsSame a b) where
    has_alike : (on : List ℕ) (i : ℕ) → has_own t a on i ≡ has_own t b on i
    has_alike on i = own_alike on i a.handlers b.handlers same.handlers

    of_alike : (h k : HandlerText) (o : Option ℕ) → IsSameHandler h k → of_instance t a h o ≡ of_instance t b k o
    of_alike h k (Some i) e = refl
    of_alike h k None e = ap (λ (f : ℕ → Bool). filter f (placed t)) (λ j i. is_of t (e.of j) i && not (own i j))
      where
        own : (i : ℕ) → has_own t a h.on_ i ≡ has_own t b k.on_ i
        own i = has_alike h.on_ i ∙ ap (λ on. has_own t b on i) e.on_

    stands_alike : (h k : HandlerText) → IsSameHandler h k → stands_for t a h ≡ stands_for t b k
    stands_alike h k e = of_alike h k (placed_named t h.of) e ∙ ap (λ of. of_instance t b k (placed_named t of)) e.of

    each_alike : (h k : HandlerText) (is : List ℕ) → IsSameHandler h k → Paired IsSamePair (map (at_one h) is) (map (at_one k) is)
    each_alike h k [] e = tt
    each_alike h k (i ∷ is) e = ((e, refl), each_alike h k is e)

    at_alike : (h k : HandlerText) → IsSameHandler h k → Paired IsSamePair (at_each t a h) (at_each t b k)
    at_alike h k e = subst (λ is. Paired IsSamePair (at_each t a h) (map (at_one k) is)) (stands_alike h k e) (each_alike h k (stands_for t a h) e)

    flat_alike : (hs ks : List HandlerText) → Paired IsSameHandler hs ks → Paired IsSamePair (flat_map (at_each t a) hs) (flat_map (at_each t b) ks)
    flat_alike [] [] e = tt
    flat_alike [] (k ∷ ks) e = absurd e
    flat_alike (h ∷ hs) [] e = absurd e
    flat_alike (h ∷ hs) (k ∷ ks) e = paired_append IsSamePair (at_each t a h) (at_each t b k) (flat_map (at_each t a) hs) (flat_map (at_each t b) ks) (at_alike h k e.0) (flat_alike hs ks e.1)

    texts_alike : (n : ℕ) (hs ks : List HandlerText) → Paired IsSameHandler hs ks → texts_from t a n hs ≡ texts_from t b n ks
    texts_alike n [] [] e = refl
    texts_alike n [] (k ∷ ks) e = absurd e
    texts_alike n (h ∷ hs) [] e = absurd e
    texts_alike n (h ∷ hs) (k ∷ ks) e = ap₂ (λ xs ys. xs ++ ys) (ap (map (λ i. n)) (stands_alike h k e.0)) (texts_alike (suc n) hs ks e.1)

    -- ---- programs

    pub plan_alike : (program : Program) → Planned t a program → Planned t b program
    plan_alike program p = record {
      steps = p.steps ∙ same.steps;
      callers = planned_beside IsSameCaller (PlansCaller t) caller_plan a.callers b.callers program.callers same.callers p.callers;
      handlers = planned_beside IsSamePair (PlansHandler t) handler_plan (pairs t a) (pairs t b) program.handlers (flat_alike a.handlers b.handlers same.handlers) p.handlers;
      answers = subst (λ gs. Pairwise (PlansAnswers t) gs program.answers) (guards_alike a.guards b.guards same.guards) p.answers;
    }

    -- ---- rules

    unknown_alike : (h k : HandlerText) → IsSameHandler h k → IsUnknownHandler t a h → IsUnknownHandler t b k
    unknown_alike h k e (nothing_named p q) = nothing_named (subst (λ of. placed_named t of ≡ None) e.of p) (subst (λ of. component_named t of ≡ None) e.of q)
    unknown_alike h k e (no_place i n found p) =
        no_place i n (subst (λ is. slice_get is n ≡ Some i) (stands_alike h k e) found) (subst (λ on. option_and_then (λ (c : Component). spot_in t c on) (component_of t.model i) ≡ None) e.on_ p)
    unknown_alike h k e (no_place_of_component c none named p) =
        no_place_of_component c (sym (stands_alike h k e) ∙ none) (subst (λ of. component_named t of ≡ Some c) e.of named) (subst (λ on. spot_in t c on ≡ None) e.on_ p)

    -- the like of a handler that stands at an instance stands there
    stand_alike : (n i : ℕ) (h : HandlerText) (c : Component) (place : Spot) (begins : Scope) → Stands t a n h i c place begins → (k : HandlerText) × IsSameHandler h k × Stands t b n k i c place begins
    stand_alike n i h c place begins s =
        let other : (k : HandlerText) × (slice_get b.handlers n ≡ Some k) × IsSameHandler h k = beside IsSameHandler a.handlers b.handlers n h same.handlers s.handler in (
          other.0,
          other.2,
          record {
            handler = other.1;
            one = s.one;
            of_these = subst (λ is. slice_get is s.one ≡ Some i) (stands_alike h other.0 other.2) s.of_these;
            component = s.component;
            at_place = subst (λ on. spot_in t c on ≡ Some place) other.2.on_ s.at_place;
            formals = s.formals;
          },
        )

    rule_alike : (rule : Rule) (path : List ℕ) → Breaks t a rule path → Breaks t b rule path
    rule_alike rule path (too_large h) = too_large h
    rule_alike rule path (caller_repeated n h) = caller_repeated n (repeated_beside IsSameCaller same_caller same_callers a.callers b.callers n same.callers h)
    rule_alike rule path (handler_repeated n h) = handler_repeated n (repeated_beside IsSameHandler same_handler same_handlers a.handlers b.handlers n same.handlers h)
    rule_alike rule path (guard_repeated n h) = guard_repeated n (subst (λ gs. IsRepeated same_guard gs n) (guards_alike a.guards b.guards same.guards) h)
    rule_alike rule path (handler_unknown n h found unknown) =
        let other : (k : HandlerText) × (slice_get b.handlers n ≡ Some k) × IsSameHandler h k = beside IsSameHandler a.handlers b.handlers n h same.handlers found in
        handler_unknown n other.0 other.1 (unknown_alike h other.0 other.2 unknown)
    rule_alike rule path (guard_unknown n g found unknown) = guard_unknown n g (subst (λ gs. slice_get gs n ≡ Some g) (guards_alike a.guards b.guards same.guards) found) unknown
    rule_alike rule path (in_caller r n k x found h) =
        let other : (y : CallerText) × (slice_get b.callers n ≡ Some y) × IsSameCaller x y = beside IsSameCaller a.callers b.callers n x same.callers found in
        in_caller r n k other.0 other.1 (calls_break t nothing_bound x.do_ other.0.do_ r k other.2.do_ h)
    rule_alike rule path (in_handler r n k i h c place begins stands breaks) =
        let other : (g : HandlerText) × IsSameHandler h g × Stands t b n g i c place begins = stand_alike n i h c place begins stands in
        in_handler r n k i other.0 c place begins other.2 (acts_break t i c place begins h.do_ other.0.do_ r k other.1.do_ breaks)
    rule_alike rule path (return_missing n i h c place begins stands lacks) =
        let other : (g : HandlerText) × IsSameHandler h g × Stands t b n g i c place begins = stand_alike n i h c place begins stands in
        return_missing n i other.0 c place begins other.2 (sym (lacks_alike t i c place h.do_ other.0.do_ other.1.do_) ∙ lacks)

    cycle_alike : (program : Program) (rule : Rule) (path : List ℕ) → BreaksCycle t a program rule path → BreaksCycle t b program rule path
    cycle_alike program rule path (synchronous n k m h x acts on text) = synchronous n k m h x acts on (subst (λ ms. slice_get ms n ≡ Some m) (texts_alike 0 a.handlers b.handlers same.handlers) text)
    cycle_alike program rule path (of_locks n k m h x acts on text) = of_locks n k m h x acts on (subst (λ ms. slice_get ms n ≡ Some m) (texts_alike 0 a.handlers b.handlers same.handlers) text)

    pub broken_alike : (rule : Rule) (path : List ℕ) → IsScenarioBroken t a rule path → IsScenarioBroken t b rule path
    broken_alike rule path (inl h) = inl (rule_alike rule path h)
    broken_alike rule path (inr h) = inr (h.0, plan_alike h.0 h.1, cycle_alike h.0 rule path h.2)
