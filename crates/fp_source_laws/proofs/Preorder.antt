-- Elements that nest stand in their order where they are laid out: what stands in a state follows it, and nothing else stands between.
use Rattle.std.proofs.Common.{◌≡◌, ◌<◌, ◌⊎◌, inl, inr, ℕ, suc, ◌+◌, Bool, true, false, List, [], ◌∷◌, ◌++◌, length, map, slice_get, Option, Some, None, refl, sym, ap, ◌∙◌, subst, arith}
use Rattle.std.specs.List.{AllByRecursion as Each}
use Rattle.std.proofs.lemmas.List.{length-append}
use Rattle.fp_base.proofs.Lists.{each_append, of_item}
use Rattle.fp_base.proofs.Mapped.{get_mapped, map_get}
use Rattle.fp_tree.specs.declared.machine.BehaviorElement.{BehaviorElement}
use Rattle.fp_tree.specs.declared.machine.ElementForm.{ElementForm}
use Rattle.fp_tree.specs.declared.machine.ElementForm.TheVariants as element
use Rattle.fp_parse_states.specs.declared.head.Head.{Head}
use Rattle.fp_parse_states.specs.Nested.{NestedElements, elements_of, size, standing}
use Rattle.fp_parse_states.specs.Nested.NestedElements.{none, without_body, with_body}
use Rattle.fp_machine_rules.specs.declared.item.Item.{Item}
use Rattle.fp_machine_rules.specs.Forms.{Inside, StandsIn, is_state}
use Rattle.fp_machine_rules.specs.Forms.Inside.{directly, deeper}
use Rattle.fp_machines.specs.Outline.{outline, outline_of, outlined}
use Rattle.fp_machines.specs.Ordered.{AreInOrder, AreWellPlaced, StandsBehind, declares}
use Rattle.fp_source_laws.proofs.Rows.{EachFrom, from_all, from_behind, from_front, from_get, from_joined}

-- ---- what has a body is a state, and nothing is declared in one

abbrev pub IsStateForm : ElementForm → Type 0
IsStateForm (element.State n) = Unit {0}
IsStateForm _ = ⊥

-- inside a state or outside
abbrev pub MayStand : Bool → ElementForm → Type 0
MayStand true f = declares f ≡ false
MayStand false f = Unit {0}

abbrev pub AllMayStand : Bool → NestedElements → Type 0
AllMayStand inside none = Unit {0}
AllMayStand inside (without_body before e behind more) = MayStand inside e.form × AllMayStand inside more
AllMayStand inside (with_body before e inner behind more) = IsStateForm e.form × AllMayStand true inner × AllMayStand inside more

state_outlined : (es : List BehaviorElement) (f : ElementForm) → IsStateForm f → is_state (outlined es f) ≡ true
state_outlined es (element.State n) is = refl
state_outlined es (element.Choice c) is = absurd is
state_outlined es (element.Initial g) is = absurd is
state_outlined es (element.Signal t) is = absurd is
state_outlined es (element.Action t) is = absurd is
state_outlined es (element.Guard t) is = absurd is
state_outlined es (element.On o) is = absurd is
state_outlined es (element.Entry d) is = absurd is
state_outlined es (element.Exit d) is = absurd is

elements_length : (parent : Option ℕ) (ns : NestedElements) (n : ℕ) → length (elements_of parent ns n) ≡ size ns
elements_length parent none n = refl
elements_length parent (without_body before e behind more) n =
    let later = elements_length parent more (n + 1) in omega (arith, later)
elements_length parent (with_body before e inner behind more) n =
    let within = elements_length (Some n) inner (n + 1) in
    let later = elements_length parent more ((n + 1) + size inner) in
    let both = length-append (elements_of (Some n) inner (n + 1)) (elements_of parent more ((n + 1) + size inner)) in
    omega (arith, within, later, both)

module _ (items : List Item) where
  -- what is inside a state is inside those around it
  inside_too : (around state v : ℕ) → StandsIn items state (Some around) → Inside items state v → Inside items around v
  inside_too around state v in_it (directly s) = deeper s (directly in_it)
  inside_too around state v in_it (deeper {around = other} s i) = deeper s (inside_too around state other in_it i)

  -- what stands in it may be next
  abbrev IsReady : Option ℕ → ℕ → Type 0
  IsReady None v = Unit {0}
  IsReady (Some state) v = StandsBehind items v state

  -- behind an element that stands there
  ready_next : (parent : Option ℕ) (n : ℕ) → IsReady parent n → StandsIn items n parent → IsReady parent (n + 1)
  ready_next None n ready here = tt
  ready_next (Some state) n ready here = record {
    before = let low = ready.before in omega (arith, low);
    is_state = ready.is_state;
    beside = inr (n, (let e : n + 1 ≡ suc n = omega arith in e), directly here);
  }

  -- behind what stands in the state at n, which stands there
  ready_behind : (parent : Option ℕ) (n m : ℕ) → IsReady parent n → StandsIn items n parent → StandsBehind items m n → IsReady parent m
  ready_behind None n m ready here inner = tt
  ready_behind (Some state) n m ready here inner = record {
    before = let low = ready.before in let up = inner.before in omega (arith, low, up);
    is_state = ready.is_state;
    beside = elim inner.beside as (λ _. (m ≡ suc state) ⊎ ((u : ℕ) × (m ≡ suc u) × Inside items state u)) [
      | inl e ↦ inr (n, e, directly here)
      | inr i ↦ inr (i.0, i.1, inside_too state n i.0 here i.2)
    ];
  }

module _ (all : List BehaviorElement) where
  abbrev Stands : ℕ → BehaviorElement → Type 0
  Stands v e = slice_get (outline all) v ≡ Some (outline_of all e)

  abbrev Fits : ℕ → BehaviorElement → Type 0
  Fits v e = IsReady (outline all) e.parent v

  stands_in : (parent : Option ℕ) (e : Head) (n : ℕ) → Stands n (standing parent e) → StandsIn (outline all) n parent
  stands_in parent e n here = record { item = outline_of all (standing parent e); here = here; parent = refl }

  opened : (parent : Option ℕ) (e : Head) (n : ℕ) → IsStateForm e.form → Stands n (standing parent e) → StandsBehind (outline all) (n + 1) n
  opened parent e n is here = record {
    before = omega arith;
    is_state = record { item = outline_of all (standing parent e); here = here; holds = state_outlined all e.form is };
    beside = inl (let on : n + 1 ≡ suc n = omega arith in on);
  }

  abbrev FitsAndGoesOn : Option ℕ → NestedElements → ℕ → Type 0
  FitsAndGoesOn parent ns n = EachFrom Fits n (elements_of parent ns n) × IsReady (outline all) parent (n + size ns)

  nested_fit : (inside : Bool) (parent : Option ℕ) (ns : NestedElements) (n : ℕ) → AllMayStand inside ns → EachFrom Stands n (elements_of parent ns n) → IsReady (outline all) parent n → FitsAndGoesOn parent ns n
  nested_fit inside parent none n are stand ready = (tt, let same : n ≡ n + 0 = omega arith in subst (IsReady (outline all) parent) same ready)
  nested_fit inside parent (without_body before e behind more) n are stand ready =
      let later = nested_fit inside parent more (n + 1) are.1 stand.1 (ready_next (outline all) parent n ready (stands_in parent e n stand.0)) in
      let same : (n + 1) + size more ≡ n + (size more + 1) = omega arith in
      ((ready, later.0), subst (IsReady (outline all) parent) same later.1)
  nested_fit inside parent (with_body before e inner behind more) n are stand ready =
      let here = stands_in parent e n stand.0 in
      let first = elements_of (Some n) inner (n + 1) in
      let second = elements_of parent more ((n + 1) + size inner) in
      let long : (n + 1) + size inner ≡ (n + 1) + length first = ap (λ k. (n + 1) + k) (sym (elements_length (Some n) inner (n + 1))) in
      let within = nested_fit true (Some n) inner (n + 1) are.1 (from_front Stands first second (n + 1) stand.1) (opened parent e n are.0 stand.0) in
      let later = nested_fit inside parent more ((n + 1) + size inner) are.2 (from_behind Stands first second (n + 1) ((n + 1) + size inner) long stand.1)
      (ready_behind (outline all) parent n ((n + 1) + size inner) ready here within.1) in
      let same : ((n + 1) + size inner) + size more ≡ n + (size more + (size inner + 1)) = omega arith in
      ((ready, from_joined Fits first second (n + 1) ((n + 1) + size inner) long within.0 later.0), subst (IsReady (outline all) parent) same later.1)

pub in_order : (ns : NestedElements) → AllMayStand false ns → AreInOrder (outline (elements_of None ns 0))
in_order ns are v state stands =
    let all : List BehaviorElement = elements_of None ns 0 in
    let from = get_mapped (outline_of all) all v stands.item stands.here in
    let fit = nested_fit all false None ns 0 are (from_all (Stands all) all 0 (λ k m x e at. let same : k ≡ m = omega (arith, e) in subst (λ (j : ℕ). Stands all j x) same (map_get (outline_of all) all k x at))) tt in
    let ready : IsReady (outline all) from.0.parent v = from_get (Fits all) all 0 v v from.0 (let same : v ≡ 0 + v = omega arith in same) fit.0 from.1 in
    subst (λ (p : Option ℕ). IsReady (outline all) p v) (ap (λ (i : Item). i.parent) from.2 ∙ stands.parent) ready

-- ---- what is declared stands outside states

abbrev IsOutside : BehaviorElement → Type 0
IsOutside e = declares e.form ≡ true → e.parent ≡ None

abbrev is_around : Option ℕ → Bool
is_around None = false
is_around (Some state) = true

one_outside : (parent : Option ℕ) (e : Head) → MayStand (is_around parent) e.form → IsOutside (standing parent e)
one_outside None e may is = refl
one_outside (Some state) e may is = let declared : declares e.form ≡ true = is in let other : declares e.form ≡ false = may in absurd (cc)

state_declares : (f : ElementForm) → IsStateForm f → declares f ≡ false
state_declares (element.State n) is = refl
state_declares (element.Choice c) is = absurd is
state_declares (element.Initial g) is = absurd is
state_declares (element.Signal t) is = absurd is
state_declares (element.Action t) is = absurd is
state_declares (element.Guard t) is = absurd is
state_declares (element.On o) is = absurd is
state_declares (element.Entry d) is = absurd is
state_declares (element.Exit d) is = absurd is

pub may_stand : (inside : Bool) (f : ElementForm) → declares f ≡ false → MayStand inside f
may_stand true f not = not
may_stand false f not = tt

all_outside : (parent : Option ℕ) (ns : NestedElements) (n : ℕ) → AllMayStand (is_around parent) ns → Each IsOutside (elements_of parent ns n)
all_outside parent none n may = tt
all_outside parent (without_body before e behind more) n may = (one_outside parent e may.0, all_outside parent more (n + 1) may.1)
all_outside parent (with_body before e inner behind more) n may = (
  one_outside parent e (may_stand (is_around parent) e.form (state_declares e.form may.0)),
  each_append IsOutside (elements_of (Some n) inner (n + 1)) (elements_of parent more ((n + 1) + size inner)) (all_outside (Some n) inner (n + 1) may.1)
      (all_outside parent more ((n + 1) + size inner) may.2),
)

pub well_placed : (ns : NestedElements) → AllMayStand false ns → AreWellPlaced (elements_of None ns 0)
well_placed ns may = record { in_order = in_order ns may; declared_outside = λ at e there. of_item IsOutside (elements_of None ns 0) at e (all_outside None ns 0 may) there }
