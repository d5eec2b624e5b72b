-- A list beside another, item by item.
use Rattle.std.proofs.Common.{◌≡◌, ℕ, zero, suc, ◌<◌, Bool, true, List, [], ◌∷◌, length, map, Some, refl, ap₂, arith}
use Rattle.std.specs.Prelude.{slice_get}
use Rattle.std.specs.List.{list_all}
use Rattle.fp_base.proofs.Spots.{item_beside}
use Rattle.fp_base.proofs.Passing.{all_items}
use Rattle.fp_components.specs.Resolved.{AreEach}
use Rattle.fp_sound_parts.proofs.Lists.{AreApart}

module _ {A B : Type 0} (is : ℕ → A → B → Type 0) (xs : List A) (ys : List B) (h : AreEach is xs ys) where
  pub beside : (k : ℕ) (y : B) → slice_get ys k ≡ Some y → (x : A) × (slice_get xs k ≡ Some x) × is k x y
  beside k y e = let t = item_beside xs ys h.each k y e in (t.0, t.1, h.at k t.0 y t.1 e)

  pub across : (k : ℕ) (x : A) → slice_get xs k ≡ Some x → (y : B) × (slice_get ys k ≡ Some y) × is k x y
  across k x e = let same : length xs ≡ length ys = omega (arith, h.each) in let t = item_beside ys xs same k x e in (t.0, t.1, h.at k x t.0 e t.1)

  pub all_beside : (test : B → Bool) → ((k : ℕ) (x : A) (y : B) → slice_get xs k ≡ Some x → is k x y → test y ≡ true) → list_all test ys ≡ true
  all_beside test good = all_items test ys (λ k y e. let t = beside k y e in good k t.0 y t.1 t.2)

  -- two at different places
  abbrev pub NoneClash : (B → B → Type 0) → Type 0
  NoneClash Same = (j k : ℕ) (a b : A) (x y : B) → j < k → slice_get xs j ≡ Some a → slice_get xs k ≡ Some b → is j a x → is k b y → Same x y → ⊥

  pub apart_beside : (Same : B → B → Type 0) → NoneClash Same → AreApart Same ys
  apart_beside Same none j k x y low d e same =
      let s = beside j x d in
      let t = beside k y e in
      none j k s.0 t.0 x y low s.1 t.1 s.2 t.2 same

pub mapped_each : {A B C : Type 0} (is : ℕ → A → B → Type 0) (f : A → C) (g : B → C) (xs : List A) (ys : List B) → AreEach is xs ys
    → ((k : ℕ) (x : A) (y : B) → is k x y → g y ≡ f x) → map g ys ≡ map f xs
mapped_each is f g [] [] h same = refl
mapped_each is f g [] (y ∷ ys) h same = absurd (omega (arith, h.each))
mapped_each is f g (x ∷ xs) [] h same = absurd (omega (arith, h.each))
mapped_each is f g (x ∷ xs) (y ∷ ys) h same =
    ap₂ (λ z zs. z ∷ zs) (same zero x y (h.at zero x y refl refl))
    (mapped_each (λ k. is (suc k)) f g xs ys (record { each = omega (arith, h.each); at = λ k a b d e. h.at (suc k) a b d e }) (λ k a b i. same (suc k) a b i))
