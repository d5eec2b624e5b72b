-- There is one list in order, where what isn't told apart stays as it stood.
use Rattle.std.proofs.Common.{◌≡◌, ℕ, zero, suc, ◌<◌, ◌≤◌, Bool, true, false, not, cond, ◌&&◌, List, [], ◌∷◌, length, get_or, refl, sym, ap, subst, ◌∙◌, arith}
use Rattle.std.specs.List.{AllByRecursion, filter}
use Rattle.std.specs.List.Sorted.{IsSortedBy, IsStableBy, ties}
use Rattle.std.specs.Cmp.{IsStrictWeakOrder}
use Rattle.std.proofs.lemmas.List.Sorted.{sorted_far}
use Rattle.std.proofs.lemmas.Option.{get_or_from_slice_get, slice_get_within}
use Rattle.fp_base.proofs.Bools.{both, join, not_true}
use Rattle.fp_base.proofs.Lists.{each_item}

module _ {X : Type 0} (lt : X → X → Bool) (order : IsStrictWeakOrder lt) where
  -- none before it is greater
  abbrev Rises : List X → Type 0
  Rises [] = Unit {0}
  Rises (x ∷ xs) = AllByRecursion (λ y. lt y x ≡ false) xs × Rises xs

  rises : (xs : List X) → ((i j : ℕ) (d : X) → i < j → j < length xs → lt (get_or xs j d) (get_or xs i d) ≡ false) → Rises xs
  rises [] h = tt
  rises (x ∷ xs) h = (
    each_item (λ y. lt y x ≡ false) xs
        (λ k y e.
        let low = slice_get_within xs k y e in
        subst (λ z. lt z x ≡ false) (get_or_from_slice_get xs k y x e) (h 0 (suc k) x (omega arith) (omega arith))),
    rises xs (λ i j d low within. h (suc i) (suc j) d (omega arith) (omega arith)),
  )

  pub rises_sorted : (xs : List X) → IsSortedBy lt xs → Rises xs
  rises_sorted xs up = rises xs (λ i j d low within. sorted_far lt order xs up i j d (omega arith) within)

  itself : (x : X) (b : Bool) → lt x x ≡ b → lt x x ≡ false
  itself x true e = order.one_way x x e
  itself x false e = e

  ties_itself : (x : X) → ties lt x x ≡ true
  ties_itself x = λ i. not (itself x (lt x x) refl i) && not (itself x (lt x x) refl i)

  not_less : (x y : X) → ties lt x y ≡ true → lt x y ≡ false
  not_less x y e = not_true (lt x y) (both (not (lt x y)) (not (lt y x)) e).0

  -- what ties with x stands there, so that what is least there is no more than x
  found : (x y : X) (tail zs : List X) → AllByRecursion (λ z. lt z y ≡ false) zs → filter (ties lt x) zs ≡ x ∷ tail → lt x y ≡ false
  found x y tail [] h e = absurd (cc)
  found x y tail (z ∷ zs) h e = go (ties lt x z) refl (found x y tail zs h.1)
    where
      go : (b : Bool) → ties lt x z ≡ b → (filter (ties lt x) zs ≡ x ∷ tail → lt x y ≡ false) → lt x y ≡ false
      go true is rest = order.chain x z y (not_less x z is) h.0
      go false is rest = rest (ap (λ b. cond b (z ∷ filter (ties lt x) zs) (filter (ties lt x) zs)) (sym is) ∙ e)

  not_before : (x y : X) (tail ys : List X) → AllByRecursion (λ z. lt z y ≡ false) ys → filter (ties lt x) (y ∷ ys) ≡ x ∷ tail → lt x y ≡ false
  not_before x y tail ys h e = found x y tail (y ∷ ys) (itself y (lt y y) refl, h) e

  ahead : (x : X) (xs : List X) → filter (ties lt x) (x ∷ xs) ≡ x ∷ filter (ties lt x) xs
  ahead x xs = ap (λ b. cond b (x ∷ filter (ties lt x) xs) (filter (ties lt x) xs)) (ties_itself x)

  abbrev head_or : X → List X → X
  head_or d [] = d
  head_or d (x ∷ xs) = x

  abbrev tail_of : List X → List X
  tail_of [] = []
  tail_of (x ∷ xs) = xs

  tails : (b : Bool) (x : X) (us vs : List X) → cond b (x ∷ us) us ≡ cond b (x ∷ vs) vs → us ≡ vs
  tails true x us vs e = ap tail_of e
  tails false x us vs e = e

  pub one_list : (xs ys : List X) → Rises xs → Rises ys → ((w : X) → filter (ties lt w) xs ≡ filter (ties lt w) ys) → xs ≡ ys
  one_list [] [] h k same = refl
  one_list [] (y ∷ ys) h k same = let e = same y ∙ ahead y ys in absurd (cc)
  one_list (x ∷ xs) [] h k same = let e = sym (same x) ∙ ahead x xs in absurd (cc)
  one_list (x ∷ xs) (y ∷ ys) h k same = λ i. first i ∷ one_list xs ys h.1 k.1 behind i
    where
      tie : ties lt x y ≡ true
      tie =
          let a : lt x y ≡ false = not_before x y (filter (ties lt x) xs) ys k.0 (sym (same x) ∙ ahead x xs) in
          let b : lt y x ≡ false = not_before y x (filter (ties lt y) ys) xs h.0 (same y ∙ ahead y ys) in
          λ i. not (a i) && not (b i)

      first : x ≡ y
      first =
          ap (head_or x) (sym (ahead x xs) ∙ same x ∙ ap (λ b. cond b (y ∷ filter (ties lt x) ys) (filter (ties lt x) ys)) tie)

      behind : (w : X) → filter (ties lt w) xs ≡ filter (ties lt w) ys
      behind w =
          tails (ties lt w x) x (filter (ties lt w) xs) (filter (ties lt w) ys)
          (subst (λ (z : X). filter (ties lt w) (x ∷ xs) ≡ cond (ties lt w z) (z ∷ filter (ties lt w) ys) (filter (ties lt w) ys)) (sym first) (same w))

  -- two that come of one list
  pub one_in_order : (xs us vs : List X) → IsSortedBy lt us → IsSortedBy lt vs → IsStableBy lt xs us → IsStableBy lt xs vs → us ≡ vs
  one_in_order xs us vs sorted again stable still = one_list us vs (rises_sorted us sorted) (rises_sorted vs again) (λ w. stable w ∙ sym (still w))
