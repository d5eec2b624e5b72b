-- In a machine that breaks no rule each name means something.
use Rattle.std.proofs.Common.{◌≡◌, ℕ, suc, zero, ◌+◌, true, List, [], ◌∷◌, ◌++◌, map, slice_get, Option, Some, None, is_some, refl, subst, inr}
use Rattle.std.specs.List.{AllByRecursion}
use Rattle.fp_base.specs.declared.place.Place.{Place}
use Rattle.fp_base.specs.declared.rule.Rule.TheVariants.{UndefinedInMachine}
use Rattle.fp_base.specs.Least.{IsUnbroken, broken_at}
use Rattle.fp_base.proofs.Lists.{InOption, each_before, each_behind, each_item}
use Rattle.fp_base.proofs.Options.{same_some}
use Rattle.fp_tree.specs.declared.name.Name.{Name}
use Rattle.fp_tree.specs.declared.machine.ActionUse.{ActionUse}
use Rattle.fp_tree.specs.declared.machine.BehaviorElement.{BehaviorElement}
use Rattle.fp_tree.specs.declared.machine.Do.{Do}
use Rattle.fp_tree.specs.declared.machine.ElementForm.{ElementForm}
use Rattle.fp_tree.specs.declared.machine.ElementForm.TheVariants as element
use Rattle.fp_tree.specs.declared.machine.Goto.{Goto}
use Rattle.fp_tree.specs.declared.machine.Transition.{Transition}
use Rattle.fp_tree.specs.declared.machine.Transition.TheVariants as way
use Rattle.fp_machine_rules.specs.declared.item.LaidMachine.{LaidMachine}
use Rattle.fp_machine_rules.specs.declared.item.Meaning.TheVariants.{Nothing}
use Rattle.fp_machine_rules.specs.declared.item.Use.{Use}
use Rattle.fp_machine_rules.specs.Broken.{MachineBroken}
use Rattle.fp_machines.specs.Layout.{action_use, action_uses_if, goto_uses, guard_use, guard_uses_if, laid, plainly, signal_use, takes, target_use, uses_from, uses_in, way_uses}
use Rattle.fp_machines.specs.Outline.{outline}
use Rattle.fp_machines.specs.Scopes.{action_named, guard_named, signal_named, vertex_meant}

-- ---- no use is of a name that means nothing

abbrev MeansSomething : Use → Type 0
MeansSomething used = used.means ≡ Nothing → ⊥

uses_mean : (m : LaidMachine) → IsUnbroken (MachineBroken m) → AllByRecursion MeansSomething m.uses
uses_mean m unbroken =
    each_item MeansSomething m.uses
    (λ k used here nothing. unbroken (broken_at UndefinedInMachine used.place) (inr (inr (inr (k, used, here, (refl, (used, here, nothing)))))))

taken : (types : List (Option ℕ)) (o : Option ℕ) → (takes types o ≡ Nothing → ⊥) → is_some o ≡ true
taken types None h = absurd (h refl)
taken types (Some k) h = refl

meant : (o : Option ℕ) → (plainly o ≡ Nothing → ⊥) → is_some o ≡ true
meant None h = absurd (h refl)
meant (Some k) h = refl

-- ---- what is known of the names in an element

module _ (es : List BehaviorElement) where
  abbrev pub KnownAction : ActionUse → Type 0
  KnownAction a = is_some (action_named es (outline es) a.name) ≡ true

  abbrev pub KnownActions : Do → Type 0
  KnownActions d = AllByRecursion KnownAction d.actions

  abbrev pub KnownGuard : Name → Type 0
  KnownGuard g = is_some (guard_named es (outline es) g) ≡ true

  abbrev pub KnownGoto : Option ℕ → Goto → Type 0
  KnownGoto p g = InOption KnownActions g.actions × (is_some (vertex_meant es (outline es) p g.target.names) ≡ true)

  abbrev pub KnownWay : Option ℕ → Transition → Type 0
  KnownWay p (way.Goto g) = KnownGoto p g
  KnownWay p (way.Do d) = KnownActions d

  abbrev pub KnownIn : Option ℕ → ElementForm → Type 0
  KnownIn p (element.Choice c) = KnownGuard c.guard × KnownGoto p c.met × KnownGoto p c.unmet
  KnownIn p (element.Initial g) = KnownGoto p g
  KnownIn p (element.On o) = (is_some (signal_named es (outline es) o.signal) ≡ true) × InOption KnownGuard o.guard × KnownWay p o.transition
  KnownIn p (element.Entry d) = KnownActions d
  KnownIn p (element.Exit d) = KnownActions d
  KnownIn p _ = Unit {0}

module _ (es : List BehaviorElement) (types : List (Option ℕ)) (at : ℕ) where
  actions_known : (uses : List ActionUse) → AllByRecursion MeansSomething (map (action_use es (outline es) types at) uses) → AllByRecursion (KnownAction es) uses
  actions_known [] h = tt
  actions_known (a ∷ uses) h = (taken types (action_named es (outline es) a.name) h.0, actions_known uses h.1)

  if_known : (o : Option Do) → AllByRecursion MeansSomething (action_uses_if es (outline es) types at o) → InOption (KnownActions es) o
  if_known None h = tt
  if_known (Some d) h = actions_known d.actions h

  goto_known : (p : Option ℕ) (g : Goto) → AllByRecursion MeansSomething (goto_uses es (outline es) types at p g) → KnownGoto es p g
  goto_known p g h = (
    if_known g.actions (each_before MeansSomething (action_uses_if es (outline es) types at g.actions) (target_use es (outline es) at p g.target ∷ []) h),
    meant (vertex_meant es (outline es) p g.target.names)
        (each_behind MeansSomething (action_uses_if es (outline es) types at g.actions) (target_use es (outline es) at p g.target ∷ []) h).0,
  )

  guard_known : (o : Option Name) → AllByRecursion MeansSomething (guard_uses_if es (outline es) types at o) → InOption (KnownGuard es) o
  guard_known None h = tt
  guard_known (Some g) h = taken types (guard_named es (outline es) g) h.0

  way_known : (p : Option ℕ) (t : Transition) → AllByRecursion MeansSomething (way_uses es (outline es) types at p t) → KnownWay es p t
  way_known p (way.Goto g) h = goto_known p g h
  way_known p (way.Do d) h = actions_known d.actions h

  form_known : (p : Option ℕ) (f : ElementForm) → AllByRecursion MeansSomething (uses_in es (outline es) types at p f) → KnownIn es p f
  form_known p (element.State n) h = tt
  form_known p (element.Choice c) h =
      let met = goto_uses es (outline es) types at p c.met in
      let unmet = goto_uses es (outline es) types at p c.unmet in
      let guard = guard_use es (outline es) types at c.guard ∷ [] in
      let front = each_before MeansSomething (guard ++ met) unmet h in (
        taken types (guard_named es (outline es) c.guard) (each_before MeansSomething guard met front).0,
        goto_known p c.met (each_behind MeansSomething guard met front),
        goto_known p c.unmet (each_behind MeansSomething (guard ++ met) unmet h),
      )
  form_known p (element.Initial g) h = goto_known p g h
  form_known p (element.Signal t) h = tt
  form_known p (element.Action t) h = tt
  form_known p (element.Guard t) h = tt
  form_known p (element.On o) h =
      let signal = signal_use es (outline es) at o.signal ∷ [] in
      let guards = guard_uses_if es (outline es) types at o.guard in
      let way = way_uses es (outline es) types at p o.transition in
      let front = each_before MeansSomething (signal ++ guards) way h in (
        meant (signal_named es (outline es) o.signal) (each_before MeansSomething signal guards front).0,
        guard_known o.guard (each_behind MeansSomething signal guards front),
        way_known p o.transition (each_behind MeansSomething (signal ++ guards) way h),
      )
  form_known p (element.Entry d) h = actions_known d.actions h
  form_known p (element.Exit d) h = actions_known d.actions h

one_known : (es : List BehaviorElement) (types : List (Option ℕ)) (more : List BehaviorElement) (at v : ℕ) (e : BehaviorElement)
    → AllByRecursion MeansSomething (uses_from es (outline es) types at more) → slice_get more v ≡ Some e → KnownIn es e.parent e.form
one_known es types [] at v e h g = absurd cc
one_known es types (d ∷ more) at zero e h g =
    subst (λ (x : BehaviorElement). KnownIn es x.parent x.form) (same_some g)
    (form_known es types at d.parent d.form
    (each_before MeansSomething (uses_in es (outline es) types at d.parent d.form) (uses_from es (outline es) types (at + 1) more) h))
one_known es types (d ∷ more) at (suc v) e h g =
    one_known es types more (at + 1) v e
    (each_behind MeansSomething (uses_in es (outline es) types at d.parent d.form) (uses_from es (outline es) types (at + 1) more) h) g

pub each_known : (es : List BehaviorElement) (types : List (Option ℕ)) (place : Place) → IsUnbroken (MachineBroken (laid place es types))
    → (v : ℕ) (e : BehaviorElement) → slice_get es v ≡ Some e → KnownIn es e.parent e.form
each_known es types place unbroken v e h = one_known es types es 0 v e (uses_mean (laid place es types) unbroken) h
