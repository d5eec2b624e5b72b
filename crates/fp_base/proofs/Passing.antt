-- Items of a list that pass a test.
use Rattle.std.proofs.Common.{◌≡◌, ◌∙◌, ℕ, zero, suc, ◌+◌, ◌<◌, Bool, true, false, cond, not, ◌&&◌, ◌||◌, List, [], ◌∷◌, ◌++◌, length, map, take, slice_get, Option, Some, None, refl, sym, ap, inl, inr, arith}
use Rattle.std.specs.List.{AllByRecursion, filter, find, list_all, list_any, position}
use Rattle.std.proofs.Math.Bool.{or-false}
use Rattle.std.proofs.lemmas.List.Folds.{list_all-append}
use Rattle.std.proofs.lemmas.List.Quantifiers.{position-Some}
use Rattle.std.proofs.lemmas.Option.{get_or_from_slice_get}
use Rattle.fp_base.proofs.Bools.{join, not_either, or_assoc, or_cases, or_left, or_right, both}
use Rattle.fp_base.proofs.Options.{same_some}
use Rattle.fp_base.proofs.Spots.{item_below}

pub all_items : {A : Type 0} (p : A → Bool) (xs : List A) → ((k : ℕ) (x : A) → slice_get xs k ≡ Some x → p x ≡ true) → list_all p xs ≡ true
all_items p [] h = refl
all_items p (x ∷ xs) h = join (p x) (list_all p xs) (h zero x refl) (all_items p xs (λ k y e. h (suc k) y e))

pub all_joined : {A : Type 0} (p : A → Bool) (xs ys : List A) → list_all p xs ≡ true → list_all p ys ≡ true → list_all p (xs ++ ys) ≡ true
all_joined p xs ys h k = list_all-append p xs ys ∙ join (list_all p xs) (list_all p ys) h k

pub some_fails : {A : Type 0} (p : A → Bool) (xs : List A) → list_all p xs ≡ false → (k : ℕ) × (x : A) × (slice_get xs k ≡ Some x) × (p x ≡ false)
some_fails p [] h = absurd (cc)
some_fails {A = A} p (x ∷ xs) h = go (p x) refl (some_fails p xs)
  where
    go : (b : Bool) → p x ≡ b → (list_all p xs ≡ false → (k : ℕ) × (y : A) × (slice_get xs k ≡ Some y) × (p y ≡ false)) → (k : ℕ) × (y : A) × (slice_get (x ∷ xs) k ≡ Some y) × (p y ≡ false)
    go false is rest = (0, x, refl, is)
    go true is rest = let t = rest (sym (ap (λ (b : Bool). b && list_all p xs) is) ∙ h) in (suc t.0, t.1, t.2, t.3)

pub any_at : {A : Type 0} (p : A → Bool) (xs : List A) (k : ℕ) (x : A) → slice_get xs k ≡ Some x → p x ≡ true → list_any p xs ≡ true
any_at p [] k x e h = absurd (cc)
any_at p (y ∷ xs) zero x e h = or_left (p y) (list_any p xs) (ap p (same_some e) ∙ h)
any_at p (y ∷ xs) (suc k) x e h = or_right (p y) (list_any p xs) (any_at p xs k x e h)

pub any_found : {A : Type 0} (p : A → Bool) (xs : List A) → list_any p xs ≡ true → (k : ℕ) × (x : A) × (slice_get xs k ≡ Some x) × (p x ≡ true)
any_found p [] h = absurd (cc)
any_found p (x ∷ xs) h = elim (or_cases (p x) (list_any p xs) h) [ inl a ↦ (0, x, refl, a) | inr b ↦ let r = any_found p xs b in (suc r.0, r.1, r.2, r.3) ]

pub any_pushed : {A : Type 0} (p : A → Bool) (xs : List A) (x : A) → list_any p (xs ++ x ∷ []) ≡ (list_any p xs || p x)
any_pushed p [] x = or-false (p x)
any_pushed p (y ∷ xs) x = ap (λ (b : Bool). p y || b) (any_pushed p xs x) ∙ sym (or_assoc (p y) (list_any p xs) (p x))

-- of the first so many
pub any_before : {A : Type 0} (p : A → Bool) (xs : List A) (n k : ℕ) (x : A) → k < n → slice_get xs k ≡ Some x → p x ≡ true → list_any p (take n xs) ≡ true
any_before p [] n k x low e h = absurd (cc)
any_before p (y ∷ xs) zero k x low e h = absurd (omega arith)
any_before p (y ∷ xs) (suc n) zero x low e h = or_left (p y) (list_any p (take n xs)) (ap p (same_some e) ∙ h)
any_before p (y ∷ xs) (suc n) (suc k) x low e h = or_right (p y) (list_any p (take n xs)) (any_before p xs n k x (omega arith) e h)

pub all_implied : {A : Type 0} (p q : A → Bool) (xs : List A) → ((x : A) → p x ≡ true → q x ≡ true) → list_all p xs ≡ true → list_all q xs ≡ true
all_implied p q [] f h = refl
all_implied p q (x ∷ xs) f h = let b = both (p x) (list_all p xs) h in join (q x) (list_all q xs) (f x b.0) (all_implied p q xs f b.1)

pub none_passes : {A : Type 0} (p : A → Bool) (xs : List A) → ((x : A) → p x ≡ false) → list_any p xs ≡ false
none_passes p [] h = refl
none_passes p (x ∷ xs) h = rw (h x) (none_passes p xs h)

pub found_before : {A : Type 0} (p : A → Bool) (xs : List A) (k : ℕ) → list_any p (take k xs) ≡ true → (j : ℕ) × (x : A) × (j < k) × (slice_get xs j ≡ Some x) × (p x ≡ true)
found_before p [] zero h = cc
found_before p [] (suc k) h = cc
found_before p (y ∷ xs) zero h = cc
found_before {A = A} p (y ∷ xs) (suc k) h = go (p y) refl h (λ e. found_before p xs k e)
  where
    go : (b : Bool) → p y ≡ b → (b || list_any p (take k xs)) ≡ true → (list_any p (take k xs) ≡ true → (j : ℕ) × (x : A) × (j < k) × (slice_get xs j ≡ Some x) × (p x ≡ true))
        → (j : ℕ) × (x : A) × (j < suc k) × (slice_get (y ∷ xs) j ≡ Some x) × (p x ≡ true)
    go true e h rest = (0, y, omega arith, refl, e)
    go false e h rest = let r = rest h in (suc r.0, r.1, omega (arith, r.2), r.3, r.4)

pub none_mapped : {A B : Type 0} (p : B → Bool) (f : A → B) (xs : List A) → ((k : ℕ) (x : A) → slice_get xs k ≡ Some x → p (f x) ≡ true → ⊥) → not (list_any p (map f xs)) ≡ true
none_mapped p f [] h = refl
none_mapped p f (x ∷ xs) h = not_either (p (f x)) (list_any p (map f xs)) (h zero x refl) (none_mapped p f xs (λ k y e. h (suc k) y e))

-- ---- the first that passes

pub found_passes : {A : Type 0} (p : A → Bool) (xs : List A) (x : A) → find p xs ≡ Some x → p x ≡ true
found_passes p [] x h = absurd (cc)
found_passes {A = A} p (y ∷ xs) x h = go (p y) refl h (λ k. found_passes p xs x k)
  where
    go : (b : Bool) → p y ≡ b → cond b (Some y) (find p xs) ≡ Some x → (find p xs ≡ Some x → p x ≡ true) → p x ≡ true
    go true e h rest = ap p (sym (same_some h)) ∙ e
    go false e h rest = rest h

pub position_passes : {A : Type 0} (p : A → Bool) (xs : List A) (k : ℕ) → position p xs ≡ Some k → (x : A) × (slice_get xs k ≡ Some x) × (p x ≡ true)
position_passes p [] k e = absurd (cc)
position_passes p (y ∷ ys) k e =
    let h = position-Some p (y ∷ ys) k y e in
    let x = item_below (y ∷ ys) k h.0 in
    (x.0, x.1, ap p (sym (get_or_from_slice_get (y ∷ ys) k x.0 y x.1)) ∙ h.1)

pub position_below : {A : Type 0} (p : A → Bool) (xs : List A) (k : ℕ) → position p xs ≡ Some k → k < length xs
position_below p [] k e = absurd (cc)
position_below p (y ∷ ys) k e = (position-Some p (y ∷ ys) k y e).0

-- ---- those that pass

pub each_passing : {A : Type 0} (P Q : A → Type 0) (p : A → Bool) → ((x : A) → P x → p x ≡ true → Q x) → (xs : List A) → AllByRecursion P xs → AllByRecursion Q (filter p xs)
each_passing P Q p to [] h = tt
each_passing P Q p to (x ∷ xs) h = go (p x) refl (each_passing P Q p to xs h.1)
  where
    go : (b : Bool) → p x ≡ b → AllByRecursion Q (filter p xs) → AllByRecursion Q (cond b (x ∷ filter p xs) (filter p xs))
    go true is rest = (to x h.0 is, rest)
    go false is rest = rest

pub each_filtered : {A : Type 0} (P : A → Type 0) (p : A → Bool) (xs : List A) → AllByRecursion P xs → AllByRecursion P (filter p xs)
each_filtered P p xs h = each_passing P P p (λ x k e. k) xs h
