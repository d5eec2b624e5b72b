-- Two lists side by side, with one item more.
use Rattle.std.proofs.Common.{◌≡◌, ◌∙◌, ◌⊎◌, inl, inr, ℕ, ◌+◌, ◌≤◌, List, [], ◌∷◌, ◌++◌, length, take, slice_get, Some, sym, ap, subst, arith}
use Rattle.std.proofs.lemmas.List.{length-append, append-nil, take_all}
use Rattle.std.proofs.lemmas.Option.{slice_get_within}
use Rattle.fp_base.proofs.Lists.{take_next, no_item}
use Rattle.fp_base.proofs.Spots.{get_push}
use Rattle.fp_components.specs.Resolved.{AreEach}

module _ {A B : Type 0} (holds : ℕ → A → B → Type 0) where
  pub each_none : (ys : List B) → ys ≡ [] → AreEach holds [] ys
  each_none ys none = record { each = ap (λ (zs : List B). length zs) none; at = λ k x y e. no_item k x e }

  pub each_push : (xs : List A) (ys more : List B) (x : A) (y : B) → more ≡ ys ++ y ∷ [] → holds (length xs) x y → AreEach holds xs ys → AreEach holds (xs ++ x ∷ []) more
  each_push xs ys more x y pushed here h = record {
    each = ap (λ (zs : List B). length zs) pushed ∙ length-append ys (y ∷ []) ∙ ap (λ (n : ℕ). n + 1) h.each ∙ sym (length-append xs (x ∷ []));
    at = λ k a b e p. go k a b (get_push xs x a k e) (get_push ys y b k (subst (λ (zs : List B). slice_get zs k ≡ Some b) pushed p));
  }
    where
      go : (k : ℕ) (a : A) (b : B) → (slice_get xs k ≡ Some a) ⊎ ((k ≡ length xs) × (x ≡ a)) → (slice_get ys k ≡ Some b) ⊎ ((k ≡ length ys) × (y ≡ b)) → holds k a b
      go k a b (inl l) (inl r) = h.at k a b l r
      go k a b (inl l) (inr r) = let low = slice_get_within xs k a l in let last = r.0 in let each = h.each in absurd (omega arith)
      go k a b (inr l) (inl r) = let low = slice_get_within ys k b r in let last = l.0 in let each = h.each in absurd (omega arith)
      go k a b (inr l) (inr r) =
          subst (λ (n : ℕ). holds n a b) (sym l.0) (subst (λ (z : A). holds (length xs) z b) l.1 (subst (λ (z : B). holds (length xs) x z) r.1 here))

  pub each_same : (xs zs : List A) (ys : List B) → xs ≡ zs → AreEach holds xs ys → AreEach holds zs ys
  each_same xs zs ys same h = subst (λ (as_ : List A). AreEach holds as_ ys) same h

  pub still : (xs zs : List A) (ys : List B) → zs ≡ [] → AreEach holds xs ys → AreEach holds (xs ++ zs) ys
  still xs zs ys none h = each_same xs (xs ++ zs) ys (sym (ap (λ (as_ : List A). xs ++ as_) none ∙ append-nil xs)) h

  pub each_all : (xs : List A) (k : ℕ) (ys : List B) → length xs ≤ k → AreEach holds (take k xs) ys → AreEach holds xs ys
  each_all xs k ys past h = each_same (take k xs) xs ys (take_all k xs past) h

-- where it holds at any position
pub each_next : {A B : Type 0} (holds : A → B → Type 0) (xs : List A) (k : ℕ) (x : A) (ys more : List B) (y : B) → slice_get xs k ≡ Some x → more ≡ ys ++ y ∷ [] → holds x y
    → AreEach (λ n. holds) (take k xs) ys → AreEach (λ n. holds) (take (k + 1) xs) more
each_next {B = B} holds xs k x ys more y at pushed here h =
    each_same (λ n. holds) (take k xs ++ x ∷ []) (take (k + 1) xs) more (sym (take_next xs k x at)) (each_push (λ n. holds) (take k xs) ys more x y pushed here h)
