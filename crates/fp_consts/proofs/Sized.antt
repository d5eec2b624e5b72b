-- What is found of a list or struct.
use Rattle.std.proofs.Common.{◌≡◌, ℕ, ◌+◌, ◌<◌, ◌≤◌, ◌⊎◌, Bool, true, false, List, length, map, flat_map, sum, Option, Some, None, option_map, refl, inl, inr, sym, ap, subst, ◌∙◌, arith}
use Rattle.std.specs.Prelude.{nat_lt, nat_le}
use Rattle.std.proofs.lemmas.Bool.Decides.{nat_tests}
use Rattle.fp_base.specs.declared.place.Place.{Place}
use Rattle.fp_base.specs.declared.refusal.Refusal.{Refusal}
use Rattle.fp_base.specs.declared.rule.Rule.TheVariants.{ValueTooLarge}
use Rattle.fp_base.specs.declared.value.Value.{Value, Array, Struct}
use Rattle.fp_tree.specs.declared.source.Source.{Source}
use Rattle.fp_tree.specs.declared.expression.Expr.{Expr}
use Rattle.fp_tree.specs.declared.expression.Assignment.{Assignment}
use Rattle.fp_tree.specs.declared.expression.Form.TheOpen as form
use Rattle.fp_meaning.specs.declared.names.Mention.{Mention}
use Rattle.fp_base.specs.Least.{IsLeast, broken_at, lesser_of}
use Rattle.fp_meaning.specs.Names.{Path, in_expression}
use Rattle.fp_meaning.specs.Values.{Opened, opened, leaves, levels, leaves_among, deepest, parts_with, values_in, IsWithinSize, Val, Vals, listed, structured, IsValue}
use Rattle.fp_meaning.specs.ConstantFaults.{BrokenHere, list_too_large, struct_too_large, parts_of, BrokenIn}
use Rattle.fp_base.proofs.Calculus.{least_none, least_only, least_along}
use Rattle.fp_meaning.proofs.OneValue.{one_values}
use Rattle.fp_consts.specs.declared.found.Examination.{Examination}
use Rattle.fp_consts.specs.declared.gathered.Gathered.{Gathered}
use Rattle.fp_consts.specs.declared.gathered.Whole.{Whole}
use Rattle.fp_consts.specs.Examined.{IsMeasured, IsFound, IsGathered, AreGathered, IsSized, PartsBroken, plain, measured_with, leaves_with, found_of}
use Rattle.fp_consts.proofs.Sizes.{array_leaves, array_levels}
use Rattle.fp_consts.proofs.Measures.{some_measured, none_measured, among_small, among_was_small, with_among, struct_leaves, struct_levels}
use Rattle.fp_consts.proofs.Wholes.{broken_whole}

-- an opened expression whose value is made of those of its parts
pub record IsWhole (source : Source) (scope : Path) (es : List Expr) (s : Opened) (made : List Value → Value) : Type 0 where
  pub build : (vs : List Value) → Vals source scope es vs → IsWithinSize (made vs) → Val source scope s (made vs)
  pub unbuild : (v : Value) → Val source scope s v → (vs : List Value) × Vals source scope es vs × IsWithinSize (made vs) × (v ≡ made vs)
  pub breaks : (place : Place) (vs : List Value) → Vals source scope es vs → ¬ IsWithinSize (made vs) → BrokenHere source scope place s (broken_at ValueTooLarge place)
  pub unbreaks : (place : Place) (f : Refusal) → BrokenHere source scope place s f → (f ≡ broken_at ValueTooLarge place) × (vs : List Value) × Vals source scope es vs × ¬ IsWithinSize (made vs)
  pub parts : parts_of s ≡ es
  pub of_leaves : (vs : List Value) → Vals source scope es vs → leaves (made vs) ≡ leaves_among (map leaves vs)
  pub of_levels : (vs : List Value) → Vals source scope es vs → levels (made vs) ≡ 1 + deepest (map levels vs)

module _ (source : Source) (scope : Path) where
  array_back : {items : List Expr} (v : Value) → Val source scope (form.Array items) v → (vs : List Value) × Vals source scope items vs × IsWithinSize (Array vs) × (v ≡ Array vs)
  array_back v (listed {vs = vs} each within) = (vs, each, within, refl)

  array_unbreaks : {items : List Expr} {place : Place} (f : Refusal) → BrokenHere source scope place (form.Array items) f
      → (f ≡ broken_at ValueTooLarge place) × (vs : List Value) × Vals source scope items vs × ¬ IsWithinSize (Array vs)
  array_unbreaks f (list_too_large {vs = vs} each large) = (refl, vs, each, large)

  pub array_whole : (items : List Expr) → IsWhole source scope items (form.Array items) Array
  array_whole items = record {
    build = λ vs each within. listed each within;
    unbuild = array_back;
    breaks = λ place vs each large. list_too_large each large;
    unbreaks = λ place f h. array_unbreaks f h;
    parts = refl;
    of_leaves = λ vs each. array_leaves vs;
    of_levels = λ vs each. array_levels vs;
  }

  struct_back : {members : List Assignment} (v : Value) → Val source scope (form.Struct members) v
      → (vs : List Value) × Vals source scope (values_in members) vs × IsWithinSize (Struct (parts_with members vs)) × (v ≡ Struct (parts_with members vs))
  struct_back v (structured {vs = vs} each within) = (vs, each, within, refl)

  struct_unbreaks : {members : List Assignment} {place : Place} (f : Refusal) → BrokenHere source scope place (form.Struct members) f
      → (f ≡ broken_at ValueTooLarge place) × (vs : List Value) × Vals source scope (values_in members) vs × ¬ IsWithinSize (Struct (parts_with members vs))
  struct_unbreaks f (struct_too_large {vs = vs} each large) = (refl, vs, each, large)

  pub struct_whole : (members : List Assignment) → IsWhole source scope (values_in members) (form.Struct members) (λ vs. Struct (parts_with members vs))
  struct_whole members = record {
    build = λ vs each within. structured each within;
    unbuild = struct_back;
    breaks = λ place vs each large. struct_too_large each large;
    unbreaks = λ place f h. struct_unbreaks f h;
    parts = refl;
    of_leaves = λ vs each. struct_leaves members vs each;
    of_levels = λ vs each. struct_levels members vs each;
  }

fit_or_not : (n d : ℕ) → ((n ≤ 65536) × (d < 64)) ⊎ ((n ≤ 65536) × (d < 64) → ⊥)
fit_or_not n d = go (nat_le n 65536) (nat_lt d 64) refl refl
  where
    go : (b c : Bool) → nat_le n 65536 ≡ b → nat_lt d 64 ≡ c → ((n ≤ 65536) × (d < 64)) ⊎ ((n ≤ 65536) × (d < 64) → ⊥)
    go true true e f = inl (grind (arith, nat_tests), grind (arith, nat_tests))
    go false c e f = inr (λ t. let small = t.0 in grind (arith, nat_tests))
    go true false e f = inr (λ t. let low = t.1 in grind (arith, nat_tests))

true_or_false : (b : Bool) → (b ≡ true) ⊎ (b ≡ false)
true_or_false true = inl refl
true_or_false false = inr refl

module _ (source : Source) (scope : Path) (es : List Expr) (made : List Value → Value) where
  abbrev TooLarge : Place → Refusal → Type 0
  TooLarge place f = (f ≡ broken_at ValueTooLarge place) × (vs : List Value) × Vals source scope es vs × ¬ IsWithinSize (made vs)

  -- the values of the parts, if all have some, with their leaves and levels, say whether the whole is small enough
  small : {s : Opened} → IsWhole source scope es s made → (g : Gathered) (a : AreGathered source scope es g) → g.leaves ≤ 65536 → g.levels < 64 → IsWithinSize (made a.values)
  small w g a n d =
      let is = a.of_leaves in let deep = a.of_levels in
      let few = among_small (sum_of a) (omega arith) in
      let made_leaves = w.of_leaves a.values a.each in let made_levels = w.of_levels a.values a.each in
      record { of_leaves = omega arith; of_levels = omega arith }
    where
      sum_of : {g : Gathered} → AreGathered source scope es g → List ℕ
      sum_of a = map leaves a.values

  was_small : {s : Opened} → IsWhole source scope es s made → (g : Gathered) (a : AreGathered source scope es g) → IsWithinSize (made a.values) → (g.leaves ≤ 65536) × (g.levels < 64)
  was_small w g a within =
      let is = a.of_leaves in let deep = a.of_levels in
      let made_leaves = w.of_leaves a.values a.each in let made_levels = w.of_levels a.values a.each in
      let n = within.of_leaves in let d = within.of_levels in
      let few : sum (map leaves a.values) ≤ 65536 = among_was_small (map leaves a.values) (omega arith) in
      (omega arith, omega arith)

  made_measured : {s : Opened} → IsWhole source scope es s made → (g : Gathered) (a : AreGathered source scope es g) → g.leaves ≤ 65536 → g.levels < 64
      → IsMeasured (measured_with (made a.values) (leaves_with g.leaves a.values) (g.levels + 1))
  made_measured w g a n d =
      let is = a.of_leaves in let deep = a.of_levels in
      let exact : g.leaves ≡ sum (map leaves a.values) = omega arith in
      let made_levels = w.of_levels a.values a.each in
      record {
        of_leaves = with_among g.leaves a.values exact ∙ sym (w.of_leaves a.values a.each);
        of_levels = omega arith;
        within = small w g a n d;
      }

  found_value : (o : Option (List Value)) (n d : ℕ) (vs : List Value) (n' d' : ℕ) → o ≡ Some vs → n ≡ n' → d ≡ d'
      → option_map (λ ws. measured_with (made ws) n d) o ≡ Some (measured_with (made vs) n' d')
  found_value o n d vs n' d' e f g = cc

  whole_value : (s : Opened) → IsWhole source scope es s made → (vs : List Value) → Vals source scope es vs → IsWithinSize (made vs) → IsValue source scope s (Some (made vs))
  whole_value s w vs each within = record {
    holds = λ v e. let same : made vs ≡ v = cc in subst (λ (x : Value). Val source scope s x) same (w.build vs each within);
    only = λ v h. let t = w.unbuild v h in ap (λ (xs : List Value). Some (made xs)) (one_values each t.1) ∙ ap (λ (x : Value). Some x) (sym t.3);
  }

  no_value : (s : Opened) → IsWhole source scope es s made → ((vs : List Value) → Vals source scope es vs → IsWithinSize (made vs) → ⊥) → IsValue source scope s None
  no_value s w never = record {
    holds = λ v e. cc;
    only = λ v h. let t = w.unbuild v h in absurd (never t.0 t.1 t.2);
  }

  module _ (e : Expr) (s : Opened) (w : IsWhole source scope es s made) (is : opened e ≡ s) where
    at_form : (o : Option Value) → IsValue source scope s o → IsValue source scope (opened e) o
    at_form o value = subst (λ (x : Opened). IsValue source scope x o) (sym is) value

    broken : (own inner : Option Refusal) → IsLeast (TooLarge e.at.first) own → IsLeast (PartsBroken source scope es) inner → IsLeast (BrokenIn source scope e) (lesser_of own inner)
    broken own inner l m =
        broken_whole source scope e s (TooLarge e.at.first) own inner is
        (λ f t. subst (λ (g : Refusal). BrokenHere source scope e.at.first s g) (sym t.0) (w.breaks e.at.first t.1 t.2 t.3))
        (λ f h. w.unbreaks e.at.first f h) l
        (subst (λ (xs : List Expr). IsLeast (PartsBroken source scope xs) inner) (sym w.parts) m)

    module _ (from : ℕ) (g : Gathered) (z : Whole) (uses : in_expression scope e ≡ flat_map (in_expression scope) es)
        (all : IsGathered source scope es from g) (sized : IsSized e.at.first g z) where
      behind : z.next ≡ from + length (in_expression scope e)
      behind = sized.next ∙ all.next ∙ ap (λ (ms : List Mention). from + length ms) (sym uses)

      without : z.values ≡ None → found_of made z ≡ record { value = None; first = z.first; next = z.next }
      without none = ap (λ (o : Option (List Value)). record { value = option_map (λ ws. measured_with (made ws) z.leaves z.levels) o; first = z.first; next = z.next }) none

      nothing_found : z.values ≡ None → ((vs : List Value) → Vals source scope es vs → IsWithinSize (made vs) → ⊥) → IsLeast (BrokenIn source scope e) z.first
          → IsFound source scope e from (found_of made z)
      nothing_found none never least = subst (λ (found : Examination). IsFound source scope e from found) (sym (without none)) (record {
        measured = none_measured;
        value = at_form None (no_value s w never);
        first = least;
        next = behind;
      })

      incomplete : g.complete ≡ false → IsFound source scope e from (found_of made z)
      incomplete lacks =
          nothing_found (sized.none (inl lacks)) (λ vs each within. all.none lacks vs each)
          (least_along (sym (sized.same (inl lacks))) (broken None g.first (least_none (λ f t. all.none lacks t.1 t.2)) all.first))

      not_within : (a : AreGathered source scope es g) → ((g.leaves ≤ 65536) × (g.levels < 64) → ⊥) → (vs : List Value) → Vals source scope es vs → ¬ IsWithinSize (made vs)
      not_within a unfit vs each within =
          unfit (was_small w g a (subst (λ (xs : List Value). IsWithinSize (made xs)) (one_values each a.each) within))

      too_large : (full : g.complete ≡ true) → ((g.leaves ≤ 65536) × (g.levels < 64) → ⊥) → IsFound source scope e from (found_of made z)
      too_large full unfit =
          let a = all.all full in
          nothing_found (sized.none (inr unfit)) (not_within a unfit)
          (least_along (sym (sized.past full unfit))
          (broken (Some (broken_at ValueTooLarge e.at.first)) g.first
          (least_only (broken_at ValueTooLarge e.at.first) (refl, a.values, a.each, not_within a unfit a.values a.each) (λ f t. t.0)) all.first))

      fitting : (full : g.complete ≡ true) → g.leaves ≤ 65536 → g.levels < 64 → IsFound source scope e from (found_of made z)
      fitting full n d =
          let a = all.all full in
          let t = sized.some full n d in
          let kept = a.kept n in
          let value : (found_of made z).value ≡ Some (measured_with (made a.values) (leaves_with g.leaves a.values) (g.levels + 1)) =
          found_value z.values z.leaves z.levels a.values (leaves_with g.leaves a.values) (g.levels + 1)
          (t.0 ∙ ap (λ (vs : List Value). Some vs) kept) (t.1 ∙ ap (λ (vs : List Value). leaves_with g.leaves vs) kept) t.2 in
          let within = small w g a n d in
          record {
            measured = λ m h. some_measured (measured_with (made a.values) (leaves_with g.leaves a.values) (g.levels + 1)) (made_measured w g a n d) m (sym value ∙ h);
            value = subst (λ (o : Option Value). IsValue source scope (opened e) o) (sym (ap plain value)) (at_form (Some (made a.values)) (whole_value s w a.values a.each within));
            first =
                least_along (sym (sized.same (inr (n, d))))
                (broken None g.first
                (least_none (λ f x. x.3 (subst (λ (xs : List Value). IsWithinSize (made xs)) (one_values a.each x.2) within))) all.first);
            next = behind;
          }

      complete : g.complete ≡ true → ((g.leaves ≤ 65536) × (g.levels < 64)) ⊎ ((g.leaves ≤ 65536) × (g.levels < 64) → ⊥) → IsFound source scope e from (found_of made z)
      complete full (inl fit) = fitting full fit.0 fit.1
      complete full (inr unfit) = too_large full unfit

      whole_by : (g.complete ≡ true) ⊎ (g.complete ≡ false) → IsFound source scope e from (found_of made z)
      whole_by (inl full) = complete full (fit_or_not g.leaves g.levels)
      whole_by (inr lacks) = incomplete lacks

      pub whole_found : IsFound source scope e from (found_of made z)
      whole_found = whole_by (true_or_false g.complete)
