-- What is read of a list, one after another, into what grows with each.
use Rattle.std.proofs.Common.{◌≡◌, ℕ, ◌+◌, ◌≤◌, List, [], ◌∷◌, ◌++◌, length, flat_map, take, slice_get, Option, Some, sym, ap, ◌∙◌, subst}
use Rattle.std.proofs.lemmas.List.{append-nil, take_all}
use Rattle.fp_component_forms.proofs.Lists.{EachIs}
use Rattle.fp_base.proofs.Lists.{take_next}
use Rattle.fp_base.proofs.Mapped.{flat_next, flat_last}
use Rattle.fp_base.specs.declared.value.Value.{Value}
use Rattle.fp_tree.specs.declared.source.Source.{Source}
use Rattle.fp_meaning.specs.declared.item.Item.{Item}
use Rattle.fp_type_forms.specs.declared.resolving.Resolution.{Resolution}
use Rattle.fp_type_forms.specs.Resolved.{Takes}
use Rattle.fp_type_forms.specs.Written.{AllAt}
use Rattle.fp_type_forms.proofs.Only.{all_joined}
use Rattle.fp_type_forms.proofs.Taking.{taken_as, taken_nothing, taken_then}

-- what the first so many give
abbrev pub GrownFirst : {A S : Type 0} → (List A → S → Type 0) → (A → List Item) → Source → List (Option Value) → List Resolution → List A → ℕ → ℕ → ℕ → S → Type 0
GrownFirst P g source marks rs all k a b s = Takes source marks rs (flat_map g (take k all)) a b (P (take k all) s)

module _ {A S : Type 0} (P : List A → S → Type 0) (g : A → List Item) (source : Source) (marks : List (Option Value)) (rs : List Resolution) (all : List A) where
  pub none_grown : (a b : ℕ) (s : S) → b ≡ a → P [] s → GrownFirst P g source marks rs all 0 a b s
  none_grown a b s same p = subst (λ (n : ℕ). GrownFirst P g source marks rs all 0 a n s) (sym same) (taken_nothing source marks rs a p)

  pub next_grown : (k : ℕ) (x : A) (a b c : ℕ) (old new : S) → slice_get all k ≡ Some x → GrownFirst P g source marks rs all k a b old
      → Takes source marks rs (g x) b c ((xs : List A) → P xs old → P (xs ++ x ∷ []) new) → GrownFirst P g source marks rs all (k + 1) a c new
  next_grown k x a b c old new at before here =
      let front = take k all in
      subst (λ (l : List Item). Takes source marks rs l a c (P (take (k + 1) all) new)) (sym (flat_next g all k x at))
      (subst (λ (l : List A). Takes source marks rs (flat_map g front ++ g x) a c (P l new)) (sym (take_next all k x at))
      (taken_as source marks rs (flat_map g front ++ g x) a c (λ t. t.1 front t.0) (taken_then source marks rs (flat_map g front) (g x) a b c before here)))

  pub all_grown : (k a b : ℕ) (s : S) → length all ≤ k → GrownFirst P g source marks rs all k a b s → Takes source marks rs (flat_map g all) a b (P all s)
  all_grown k a b s past h = subst (λ (l : List A). Takes source marks rs (flat_map g l) a b (P l s)) (take_all k all past) h

-- one for each
module _ {A B : Type 0} (R : A → B → Type 0) where
  pub none_each : (ys : List B) → ys ≡ [] → EachIs R [] ys
  none_each ys is = subst (λ (l : List B). EachIs R [] l) (sym is) tt

  pub one_more : (x : A) (y : B) (old new : List B) → new ≡ old ++ y ∷ [] → R x y → (xs : List A) → EachIs R xs old → EachIs R (xs ++ x ∷ []) new
  one_more x y old new is r xs h = subst (λ (l : List B). EachIs R (xs ++ x ∷ []) l) (sym is) (all_joined R 0 0 xs (x ∷ []) old (y ∷ []) h (r, tt))

-- as many as each gives
module _ {A B C : Type 0} (f : A → List C) (R : C → B → Type 0) where
  pub row_more : (x : A) (fresh old new : List B) → new ≡ old ++ fresh → AllAt (λ position. R) 0 (f x) fresh
      → (xs : List A) → AllAt (λ position. R) 0 (flat_map f xs) old → AllAt (λ position. R) 0 (flat_map f (xs ++ x ∷ [])) new
  row_more x fresh old new is here xs h =
      subst (λ (l : List C). AllAt (λ position. R) 0 l new) (sym (flat_last f xs x))
      (subst (λ (l : List B). AllAt (λ position. R) 0 (flat_map f xs ++ f x) l) (sym is) (all_joined R 0 0 (flat_map f xs) (f x) old fresh h here))

  pub row_same : (x : A) (row : List B) → f x ≡ [] → (xs : List A) → AllAt (λ position. R) 0 (flat_map f xs) row → AllAt (λ position. R) 0 (flat_map f (xs ++ x ∷ [])) row
  row_same x row none xs h =
      subst (λ (l : List C). AllAt (λ position. R) 0 l row) (sym (flat_last f xs x ∙ ap (λ (l : List C). flat_map f xs ++ l) none ∙ append-nil (flat_map f xs))) h
