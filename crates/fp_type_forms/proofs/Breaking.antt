-- The least of what is broken in the parts of definitions, one part after another.
use Rattle.std.proofs.Common.{◌≡◌, Bool, true, false, cond, is_none, take, ℕ, ◌+◌, ◌≤◌, inl, inr, ℤ, List, [], ◌∷◌, ◌++◌, length, slice_get, Option, Some, None, refl, sym, ap, ◌∙◌, subst}
use Rattle.std.specs.List.{list_all, list_any}
use Rattle.std.proofs.lemmas.List.{take_all}
use Rattle.std.specs.Option.{option_flatten}
use Rattle.fp_base.proofs.Calculus.{least_none, least_one, least_only, least_along, least_either, least_if}
use Rattle.fp_base.proofs.Elements.{least_first_none, least_first_next, least_in_one, least_of_all}
use Rattle.fp_base.proofs.Lists.{all_get}
use Rattle.fp_base.proofs.Options.{same_some, no_some}
use Rattle.fp_base.proofs.Bools.{not_both}
use Rattle.fp_base.proofs.Passing.{any_at, any_found, some_fails}
use Rattle.fp_base.specs.Least.{broken_at, Either, InFirst, InSome, IsLeast, lesser_of}
use Rattle.fp_base.specs.declared.place.Place.{Place}
use Rattle.fp_base.specs.declared.refusal.Refusal.{Refusal}
use Rattle.fp_base.specs.declared.rule.Rule.{Rule}
use Rattle.fp_base.specs.declared.rule.Rule.TheVariants.{BadConversion, EnumValuesAllOrNone, FloatUsed}
use Rattle.fp_base.specs.declared.value.Value.{Value}
use Rattle.fp_tree.specs.declared.source.Source.{Source}
use Rattle.fp_tree.specs.declared.definition.Def.{Def}
use Rattle.fp_tree.specs.declared.definition.Enum.{Enum}
use Rattle.fp_tree.specs.declared.expression.Expr.{Expr}
use Rattle.fp_tree.specs.declared.part.EnumConst.{EnumConst}
use Rattle.fp_tree.specs.declared.type_name.TypeForm.{TypeForm}
use Rattle.fp_tree.specs.declared.type_name.TypeForm.TheVariants as type
use Rattle.fp_tables.specs.declared.kind.Kind.{Kind}
use Rattle.fp_meaning.specs.declared.item.Item.{Item}
use Rattle.fp_meaning.specs.declared.item.Item.TheVariants as item
use Rattle.fp_meaning.specs.Layout.{expression_items, part_items, type_form_items, items}
use Rattle.fp_meaning.specs.Names.{Path}
use Rattle.fp_meaning.specs.Sites.{entry, is_implied}
use Rattle.fp_meaning.specs.Values.{number_in, opened, Val}
use Rattle.fp_tree.specs.declared.name.Qual.{Qual}
use Rattle.fp_type_forms.specs.declared.resolving.Resolution.{Resolution}
use Rattle.fp_type_forms.specs.Broken.{BrokenByForm, BrokenByNumber, BrokenBySize, ByOptional, HasBoth, IsMixed, IsNoNumber, LeastOfAll, is_size, no_number, number_fault, size_fault, value_fault, written_fault}
use Rattle.fp_type_forms.specs.Written.{IsOnly, primitive}
use Rattle.fp_type_forms.specs.Resolved.{IsMarkOf, AreResolved, Moves, Takes, parts_of_item, value_resolved}
use Rattle.fp_type_forms.proofs.Taking.{items_from, items_next, taken_as, taken_expression, taken_nothing, taken_then}
use Rattle.fp_type_forms.proofs.Adding.{parts_resolved}

-- ---- one expression

module _ (source : Source) (scope : Path) where
  module _ (rule : Rule) (most : ℕ) (e : Expr) (v : Value) (h : IsOnly (Val source scope (opened e)) (Some v)) where
    size_tested : (n : ℤ) → number_in v ≡ Some n → (b : Bool) → is_size most n ≡ b
        → IsLeast (BrokenBySize source scope rule most e) (cond b None (Some (broken_at rule e.at.first)))
    size_tested n is true test = least_none (λ f. elim [
      | inl t ↦ no_some (sym t.3 ∙ ap number_in (sym (same_some (h.only t.1 t.2))) ∙ is)
      | inr t ↦ not_both test (ap (is_size most) (same_some (sym is ∙ ap number_in (same_some (h.only t.2.0 t.2.1)) ∙ t.2.2)) ∙ t.3)
    ])
    size_tested n is false test = least_only (broken_at rule e.at.first) (inr (refl, n, (v, h.holds v refl, is), test)) (λ f. elim [
      | inl t ↦ no_some (sym t.3 ∙ ap number_in (sym (same_some (h.only t.1 t.2))) ∙ is)
      | inr t ↦ t.0
    ])

    size_numbered_by : (o : Option ℤ) → number_in v ≡ o → IsLeast (BrokenBySize source scope rule most e) (number_fault rule most e.at.first o)
    size_numbered_by None is = least_only (broken_at BadConversion e.at.first) (inl (refl, v, h.holds v refl, is)) (λ f. elim [
      | inl t ↦ t.0
      | inr t ↦ no_some (sym is ∙ ap number_in (same_some (h.only t.2.0 t.2.1)) ∙ t.2.2)
    ])
    size_numbered_by (Some n) is = size_tested n is (is_size most n) refl

  least_size : (rule : Rule) (most : ℕ) (e : Expr) (o : Option Value) → IsOnly (Val source scope (opened e)) o
      → IsLeast (BrokenBySize source scope rule most e) (size_fault rule most e.at.first o)
  least_size rule most e None h = least_none (λ f. elim [ inl t ↦ no_some (h.only t.1 t.2) | inr t ↦ no_some (h.only t.2.0 t.2.1) ])
  least_size rule most e (Some v) h = size_numbered_by rule most e v h (number_in v) refl

  number_by : (e : Expr) (v : Value) → IsOnly (Val source scope (opened e)) (Some v) → (o : Option ℤ) → number_in v ≡ o
      → IsLeast (IsNoNumber source scope e) (no_number e.at.first o)
  number_by e v h None is = least_only (broken_at BadConversion e.at.first) (refl, v, h.holds v refl, is) (λ f t. t.0)
  number_by e v h (Some n) is = least_none (λ f t. no_some (sym t.3 ∙ ap number_in (sym (same_some (h.only t.1 t.2))) ∙ is))

  pub least_number : (e : Expr) (o : Option Value) → IsOnly (Val source scope (opened e)) o → IsLeast (IsNoNumber source scope e) (value_fault e.at.first o)
  least_number e None h = least_none (λ f t. no_some (h.only t.1 t.2))
  least_number e (Some v) h = number_by e v h (number_in v) refl

-- ---- what is read

module _ (source : Source) (marks : List (Option Value)) (rs : List Resolution) where
  pub size_taken_least : (since : ℕ) (scope : Path) (rule : Rule) (most : ℕ) (place : Place) (e : Expr) (a b : ℕ) (r : Option Refusal) → e.at.first ≡ place → Moves rs a b
      → r ≡ size_fault rule most place (value_resolved marks (slice_get rs a))
      → Takes source marks rs (expression_items since scope e) a b (IsLeast (BrokenBySize source scope rule most e) r)
  size_taken_least since scope rule most place e a b r here moves is =
      taken_expression source marks rs since scope e a b moves
      (λ o found only. least_along (sym (is ∙ ap (size_fault rule most place) found ∙ ap (λ (p : Place). size_fault rule most p o) (sym here))) (least_size source scope rule most e o only))

  pub leaf_unbroken : (since : ℕ) (scope : Path) (place : Place) (t : TypeForm) (k : Kind) (a : ℕ) → primitive t ≡ Some k
      → Takes source marks rs (type_form_items since scope t) a a (IsLeast (BrokenByForm source scope place t) None)
  leaf_unbroken since scope place (type.Text size) k a is = no_some is
  leaf_unbroken since scope place (type.Use q) k a is = no_some is
  leaf_unbroken since scope place type.F32 k a is = no_some is
  leaf_unbroken since scope place type.F64 k a is = no_some is
  leaf_unbroken since scope place t k a is = taken_nothing source marks rs a (least_none (λ f h. h))

  pub f32_broken : (since : ℕ) (scope : Path) (place : Place) (a : ℕ) (g : Refusal) → g ≡ broken_at FloatUsed place
      → Takes source marks rs (type_form_items since scope type.F32) a a (IsLeast (BrokenByForm source scope place type.F32) (Some g))
  f32_broken since scope place a g is = taken_nothing source marks rs a (least_along (ap (λ (x : Refusal). Some x) (sym is)) (least_one (broken_at FloatUsed place)))

  pub f64_broken : (since : ℕ) (scope : Path) (place : Place) (a : ℕ) (g : Refusal) → g ≡ broken_at FloatUsed place
      → Takes source marks rs (type_form_items since scope type.F64) a a (IsLeast (BrokenByForm source scope place type.F64) (Some g))
  f64_broken since scope place a g is = taken_nothing source marks rs a (least_along (ap (λ (x : Refusal). Some x) (sym is)) (least_one (broken_at FloatUsed place)))

  pub use_unbroken : (since : ℕ) (scope : Path) (place : Place) (q : Qual) (a b : ℕ) (r : Option Refusal) → r ≡ None → Moves rs a b
      → Takes source marks rs (type_form_items since scope (type.Use q)) a b (IsLeast (BrokenByForm source scope place (type.Use q)) r)
  use_unbroken since scope place q a b r is moves others h =
      (least_along (sym is) (least_none (λ f x. x)), subst (λ (n : ℕ). AreResolved source marks rs others n) (sym (moves h.0.0 h.0.1)) h.1)

  pub nothing_broken : {P : Refusal → Type 0} (a : ℕ) → ((f : Refusal) → P f → ⊥) → Takes source marks rs [] a a (IsLeast P None)
  nothing_broken a none = taken_nothing source marks rs a (least_none none)

  -- what is broken in either of two parts
  pub either_taken : {P Q : Refusal → Type 0} (xs ys : List Item) (a b c : ℕ) (o q r : Option Refusal) → r ≡ lesser_of o q → Takes source marks rs xs a b (IsLeast P o)
      → Takes source marks rs ys b c (IsLeast Q q) → Takes source marks rs (xs ++ ys) a c (IsLeast (Either P Q) r)
  either_taken xs ys a b c o q r is h k =
      taken_as source marks rs (xs ++ ys) a c (λ t. least_along (sym is) (least_either o q t.0 t.1)) (taken_then source marks rs xs ys a b c h k)

  listed_least : (scope : Path) (v : Option Expr) (r : Resolution) (a : ℕ) → slice_get rs a ≡ Some r → IsMarkOf source marks scope v r
      → IsLeast (ByOptional (IsNoNumber source scope) v) (written_fault v (value_resolved marks (slice_get rs a)))
  listed_least scope None r a at mark = least_none (λ f h. h)
  listed_least scope (Some e) r a at mark =
      least_along (ap (value_fault e.at.first) (sym (ap (value_resolved marks) (at ∙ ap (λ (x : Resolution). Some x) mark.1) ∙ ap option_flatten mark.2.1)))
      (least_number source scope e mark.2.0 (record { holds = mark.2.2.holds; only = mark.2.2.only }))

  pub listed_taken_least : (scope : Path) (d : Enum) (position : ℕ) (c : EnumConst) (a b : ℕ) (r : Option Refusal) → Moves rs a b
      → r ≡ written_fault c.value (value_resolved marks (slice_get rs a))
      → Takes source marks rs (item.Enumerated (entry scope d position c) ∷ []) a b (IsLeast (BrokenByNumber source scope c) r)
  listed_taken_least scope d position c a b r moves is others h =
      (least_along (sym is) (listed_least scope c.value h.0.0 a h.0.1 h.0.2), subst (λ (n : ℕ). AreResolved source marks rs others n) (sym (moves h.0.0 h.0.1)) h.1)

-- ---- parts that follow one another

module _ {A : Type 0} (P : ℕ → A → Refusal → Type 0) (g : ℕ → A → List Item) (source : Source) (marks : List (Option Value)) (rs : List Resolution) (xs : List A) where
  -- in the first so many
  abbrev pub LeastFirst : ℕ → ℕ → ℕ → Option Refusal → Type 0
  LeastFirst k a b first = Takes source marks rs (items_from g 0 (take k xs)) a b (IsLeast (InFirst k P xs) first)

  pub least_none_taken : (a : ℕ) → LeastFirst 0 a a None
  least_none_taken a = taken_nothing source marks rs a (least_first_none P xs)

  pub least_next_taken : (k : ℕ) (x : A) (a b c : ℕ) (first more one : Option Refusal) → slice_get xs k ≡ Some x → more ≡ lesser_of first one → LeastFirst k a b first
      → Takes source marks rs (g k x) b c (IsLeast (P k x) one) → LeastFirst (k + 1) a c more
  least_next_taken k x a b c first more one at is before here =
      subst (λ (l : List Item). Takes source marks rs l a c (IsLeast (InFirst (k + 1) P xs) more)) (sym (items_next g xs k x at))
      (taken_as source marks rs (items_from g 0 (take k xs) ++ g k x) a c
      (λ t. least_along (sym is) (least_first_next P xs k first one t.0 (least_in_one P xs k x one at t.1)))
      (taken_then source marks rs (items_from g 0 (take k xs)) (g k x) a b c before here))

  pub least_all_taken : (k a b : ℕ) (first : Option Refusal) → length xs ≤ k → LeastFirst k a b first → Takes source marks rs (items_from g 0 xs) a b (IsLeast (InSome P xs) first)
  least_all_taken k a b first past h =
      taken_as source marks rs (items_from g 0 xs) a b (least_of_all P xs k first past)
      (subst (λ (l : List A). Takes source marks rs (items_from g 0 l) a b (IsLeast (InFirst k P xs) first)) (take_all k xs past) h)

-- ---- enumerations in which some values are written

module _ (d : Enum) where
  abbrev lacks : EnumConst → Bool
  lacks c = is_none c.value

  both_when : (x y : Bool) → list_all lacks d.constants ≡ x → list_any lacks d.constants ≡ y → cond x false y ≡ true → HasBoth d
  both_when true y all any h = not_both h refl
  both_when false false all any h = not_both h refl
  both_when false true all any h = (some_fails lacks d.constants all, any_found lacks d.constants any)

  both_never : (x y : Bool) → list_all lacks d.constants ≡ x → list_any lacks d.constants ≡ y → cond x false y ≡ false → HasBoth d → ⊥
  both_never true y all any h t = not_both (all_get lacks d.constants t.0.0 t.0.1 all t.0.2) t.0.3
  both_never false true all any h t = not_both refl h
  both_never false false all any h t = not_both (any_at lacks d.constants t.1.0 t.1.1 t.1.2 t.1.3) any

  pub least_mixed : (b : Bool) (r : Option Refusal) → b ≡ cond (is_implied d) false (list_any lacks d.constants)
      → r ≡ cond b (Some (broken_at EnumValuesAllOrNone d.name.at.first)) None → IsLeast (IsMixed d) r
  least_mixed b r is made =
      least_along (sym made)
      (least_if b (broken_at EnumValuesAllOrNone d.name.at.first) (λ e. both_when (is_implied d) (list_any lacks d.constants) refl refl (sym is ∙ e))
      (λ e t. both_never (is_implied d) (list_any lacks d.constants) refl refl (sym is ∙ e) t))

-- ---- all items

module _ (P : Source → Item → Refusal → Type 0) (marks : List (Option Value)) (rs : List Resolution) (is : List Item) where
  abbrev pub LeastOfFirst : ℕ → Option Refusal → Type 0
  LeastOfFirst k first = (source : Source) → is ≡ items source → AreResolved source marks rs is 0 → IsLeast (InFirst k (λ n. P source) is) first

  pub least_of_none : LeastOfFirst 0 None
  least_of_none source laid h = least_first_none (λ n. P source) is

  pub least_of_next : (k : ℕ) (i : Item) (first more one : Option Refusal) → slice_get is k ≡ Some i → more ≡ lesser_of first one → LeastOfFirst k first
      → ((source : Source) → AreResolved source marks rs (parts_of_item i) (k + 1) → IsLeast (P source i) one) → LeastOfFirst (k + 1) more
  least_of_next k i first more one at made before here source laid h =
      least_along (sym made) (least_first_next (λ n. P source) is k first one (before source laid h)
      (least_in_one (λ n. P source) is k i one at (here source (parts_resolved source marks rs is k i laid at h))))

  pub least_of_whole : (k : ℕ) (first : Option Refusal) → length is ≤ k → LeastOfFirst k first → LeastOfAll P marks rs is first
  least_of_whole k first past h source laid resolved =
      subst (λ (l : List Item). IsLeast (InSome (λ n. P source) l) first) laid (least_of_all (λ n. P source) is k first past (h source laid resolved))

pub fault_by : (P : Def → Refusal → Type 0) (source : Source) (marks : List (Option Value)) (rs : List Resolution) (start : ℕ) (scope : Path) (d e : Def) (o : Option Refusal) → d ≡ e
    → (AreResolved source marks rs (part_items scope e) start → IsLeast (P e) o) → AreResolved source marks rs (part_items scope d) start → IsLeast (P d) o
fault_by P source marks rs start scope d e o same h =
    subst (λ (x : Def). AreResolved source marks rs (part_items scope x) start → IsLeast (P x) o) (sym same) h
