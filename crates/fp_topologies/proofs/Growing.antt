-- Lists that loops make, item by item.
use Rattle.std.proofs.Common.{◌≡◌, ℕ, ◌+◌, ◌&&◌, Bool, cond, true, false, List, [], ◌∷◌, ◌++◌, flat_map, filter, take, slice_get, Option, Some, None, refl, sym, ap, ap₂, ◌∙◌, append_assoc, append-nil}
use Rattle.std.specs.Prelude.{filter_map, option_to_list}
use Rattle.std.specs.List.{list_all}
use Rattle.std.proofs.lemmas.List.Elements.{filter_map-append, filter-append}
use Rattle.std.proofs.lemmas.Grind.{flat_map-append}
use Rattle.fp_base.proofs.Lists.{take_next}

module _ {X Y : Type 0} (h : X → Option Y) where
  one_more : (x : X) → filter_map h (x ∷ []) ≡ option_to_list (h x)
  one_more x = go (h x) refl
    where
      go : (o : Option Y) → h x ≡ o → filter_map h (x ∷ []) ≡ option_to_list (h x)
      go None e = rw (e) refl
      go (Some y) e = rw (e) refl

  pub filter_map_next : (xs : List X) (i : ℕ) (x : X) (start old new : List Y) (r : Option Y) → slice_get xs i ≡ Some x → new ≡ old ++ option_to_list r → r ≡ h x
      → old ≡ start ++ filter_map h (take i xs) → new ≡ start ++ filter_map h (take (i + 1) xs)
  filter_map_next xs i x start old new r at grown is before =
      grown ∙ ap₂ (λ (a : List Y) (b : Option Y). a ++ option_to_list b) before is ∙ append_assoc start (filter_map h (take i xs)) (option_to_list (h x))
      ∙ ap (λ (ys : List Y). start ++ ys)
      (ap (λ (ys : List Y). filter_map h (take i xs) ++ ys) (sym (one_more x)) ∙ sym (filter_map-append h (take i xs) (x ∷ [])) ∙ ap (filter_map h) (sym (take_next xs i x at)))

module _ {X Y : Type 0} (f : X → List Y) where
  more : (xs ys : List X) (x : X) → ys ≡ xs ++ x ∷ [] → flat_map f xs ++ f x ≡ flat_map f ys
  more xs ys x e = ap (λ (zs : List Y). flat_map f xs ++ zs) (sym (append-nil (f x))) ∙ sym (flat_map-append f xs (x ∷ [])) ∙ ap (flat_map f) (sym e)

  pub flat_map_next : (xs : List X) (i : ℕ) (x : X) (old new r : List Y) → slice_get xs i ≡ Some x → new ≡ old ++ r → r ≡ f x → old ≡ flat_map f (take i xs) → new ≡ flat_map f (take (i + 1) xs)
  flat_map_next xs i x old new r at grown is before =
      grown ∙ ap₂ (λ (a b : List Y). a ++ b) before is ∙ more (take i xs) (take (i + 1) xs) x (take_next xs i x at)

  pub flat_map_filtered : (p : X → Bool) (xs : List X) (i : ℕ) (x : X) (old new : List Y) → slice_get xs i ≡ Some x → new ≡ old ++ cond (p x) (f x) [] → old ≡ flat_map f (filter p (take i xs))
      → new ≡ flat_map f (filter p (take (i + 1) xs))
  flat_map_filtered p xs i x old new at grown before =
      grown ∙ ap (λ (a : List Y). a ++ cond (p x) (f x) []) before ∙ go (p x) (filter p (take i xs))
      ∙ ap (flat_map f) (sym (filter-append p (take i xs) (x ∷ [])) ∙ ap (filter p) (sym (take_next xs i x at)))
    where
      go : (b : Bool) (ys : List X) → flat_map f ys ++ cond b (f x) [] ≡ flat_map f (ys ++ cond b (x ∷ []) [])
      go true ys = more ys (ys ++ x ∷ []) x refl
      go false ys = append-nil (flat_map f ys) ∙ ap (flat_map f) (sym (append-nil ys))

module _ {X : Type 0} (p : X → Bool) where
  all_last : (xs : List X) (x : X) → (list_all p xs && p x) ≡ list_all p (xs ++ x ∷ [])
  all_last [] x = go (p x)
    where
      go : (b : Bool) → b ≡ (b && true)
      go true = refl
      go false = refl
  all_last (y ∷ ys) x = go (p y) (list_all p ys) (p x) ∙ ap (λ (b : Bool). p y && b) (all_last ys x)
    where
      go : (a b d : Bool) → ((a && b) && d) ≡ (a && (b && d))
      go true b d = refl
      go false b d = refl

  pub all_next : (xs : List X) (i : ℕ) (x : X) (old new has : Bool) → slice_get xs i ≡ Some x → new ≡ (old && has) → has ≡ p x → old ≡ list_all p (take i xs) → new ≡ list_all p (take (i + 1) xs)
  all_next xs i x old new has at grown is before =
      grown ∙ ap₂ (λ (a b : Bool). a && b) before is ∙ all_last (take i xs) x ∙ ap (list_all p) (sym (take_next xs i x at))
