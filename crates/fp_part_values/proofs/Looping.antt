-- What is read in loops over the parts of a definition.
use Rattle.std.proofs.Common.{◌≡◌, ℕ, ◌+◌, ◌≤◌, List, [], ◌∷◌, ◌++◌, length, flat_map, take, slice_get, Option, Some, None, refl, inl, inr, sym, ap, ◌∙◌, subst}
use Rattle.std.proofs.lemmas.List.{take_all}
use Rattle.fp_base.proofs.Calculus.{least_same}
use Rattle.fp_base.specs.Least.{InSome, lesser_of}
use Rattle.fp_base.specs.declared.refusal.Refusal.{Refusal}
use Rattle.fp_base.specs.declared.value.Value.{Value}
use Rattle.fp_tree.specs.declared.expression.Expr.{Expr}
use Rattle.fp_tree.specs.declared.source.Source.{Source}
use Rattle.fp_tree.specs.declared.type_name.TypeName.{TypeName}
use Rattle.fp_meaning.specs.declared.item.Item.{Item}
use Rattle.fp_meaning.specs.Sites.{Path}
use Rattle.fp_type_forms.specs.declared.resolving.Resolution.{Resolution}
use Rattle.fp_type_forms.specs.Broken.{BrokenByName, IsNoNumber}
use Rattle.fp_type_forms.proofs.Breaking.{LeastFirst, least_all_taken, least_next_taken, least_none_taken}
use Rattle.fp_type_forms.proofs.Taking.{items_flat, items_from, items_next, taken_as, taken_nothing}
use Rattle.fp_part_values.specs.FormBroken.{BrokenAmong}
use Rattle.fp_part_values.specs.Passed.{Passes}
use Rattle.fp_part_values.proofs.Among.{in_flat, flat_in}
use Rattle.fp_part_values.proofs.Joining.{Faults, passed_both}

pub none_of_each : {A B : Type 0} (f : A → List B) → ((x : A) → f x ≡ []) → (xs : List A) → [] ≡ flat_map f xs
none_of_each f none [] = refl
none_of_each {B = B} f none (x ∷ xs) = none_of_each f none xs ∙ ap (λ (l : List B). l ++ flat_map f xs) (sym (none x))

module _ {A : Type 0} (g : A → List Item) (names : A → List TypeName) (numbers : A → List Expr) (source : Source) (marks : List (Option Value)) (rs : List Resolution) (scope : Path) (xs : List A) where
  abbrev InPart : ℕ → A → Refusal → Type 0
  InPart k x = BrokenAmong source scope (names x) (numbers x)

  -- in the first so many
  abbrev pub FaultsFirst : ℕ → ℕ → ℕ → Option Refusal → Type 0
  FaultsFirst k a b first = LeastFirst InPart (λ (n : ℕ). g) source marks rs xs k a b first

  pub faults_none : (a : ℕ) → FaultsFirst 0 a a None
  faults_none a = least_none_taken InPart (λ (n : ℕ). g) source marks rs xs a

  pub faults_next : (k : ℕ) (x : A) (a b c : ℕ) (first more one : Option Refusal) → slice_get xs k ≡ Some x → more ≡ lesser_of first one → FaultsFirst k a b first
      → Faults source marks rs scope (g x) b c (names x) (numbers x) one → FaultsFirst (k + 1) a c more
  faults_next k x a b c first more one at made before here =
      least_next_taken InPart (λ (n : ℕ). g) source marks rs xs k x a b c first more one at made before here

  in_all : (f : Refusal) (k : ℕ) (x : A) → slice_get xs k ≡ Some x → InPart k x f → BrokenAmong source scope (flat_map names xs) (flat_map numbers xs) f
  in_all f k x at (inl t) = inl (flat_in (BrokenByName source scope) f names xs k x at t)
  in_all f k x at (inr t) = inr (flat_in (IsNoNumber source scope) f numbers xs k x at t)

  in_one : (f : Refusal) → BrokenAmong source scope (flat_map names xs) (flat_map numbers xs) f → InSome InPart xs f
  in_one f (inl t) = let u = in_flat (BrokenByName source scope) f names xs t in (u.0, u.1, u.2, inl u.3)
  in_one f (inr t) = let u = in_flat (IsNoNumber source scope) f numbers xs t in (u.0, u.1, u.2, inr u.3)

  pub faults_all : (k a b : ℕ) (first : Option Refusal) (ns : List TypeName) (es : List Expr) → ns ≡ flat_map names xs → es ≡ flat_map numbers xs → length xs ≤ k
      → FaultsFirst k a b first → Faults source marks rs scope (flat_map g xs) a b ns es first
  faults_all k a b first ns es named numbered past h =
      subst (λ (l : List TypeName). Faults source marks rs scope (flat_map g xs) a b l es first) (sym named)
      (subst (λ (l : List Expr). Faults source marks rs scope (flat_map g xs) a b (flat_map names xs) l first) (sym numbered)
      (subst (λ (l : List Item). Faults source marks rs scope l a b (flat_map names xs) (flat_map numbers xs) first) (sym (items_flat g 0 xs))
      (taken_as source marks rs (items_from (λ (n : ℕ). g) 0 xs) a b (λ l. least_same (λ f t. in_all f t.0 t.1 t.2 t.3) in_one l)
      (least_all_taken InPart (λ (n : ℕ). g) source marks rs xs k a b first past h))))

module _ {A : Type 0} (g : A → List Item) (source : Source) (marks : List (Option Value)) (rs : List Resolution) (xs : List A) where
  abbrev pub PassesFirst : ℕ → ℕ → ℕ → Type 0
  PassesFirst k a b = Passes source marks rs (items_from (λ (n : ℕ). g) 0 (take k xs)) a b

  pub passes_none : (a : ℕ) → PassesFirst 0 a a
  passes_none a = taken_nothing source marks rs a tt

  pub passes_next : (k : ℕ) (x : A) (a b c : ℕ) → slice_get xs k ≡ Some x → PassesFirst k a b → Passes source marks rs (g x) b c → PassesFirst (k + 1) a c
  passes_next k x a b c at before here =
      subst (λ (l : List Item). Passes source marks rs l a c) (sym (items_next (λ (n : ℕ). g) xs k x at))
      (passed_both source marks rs (items_from (λ (n : ℕ). g) 0 (take k xs)) (g x) a b c before here)

  pub passes_all : (k a b : ℕ) → length xs ≤ k → PassesFirst k a b → Passes source marks rs (flat_map g xs) a b
  passes_all k a b past h =
      subst (λ (l : List Item). Passes source marks rs l a b) (sym (items_flat g 0 xs))
      (subst (λ (l : List A). Passes source marks rs (items_from (λ (n : ℕ). g) 0 l) a b) (take_all k xs past) h)
