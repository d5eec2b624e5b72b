-- One more in a list that has one for each of another.
use Rattle.std.proofs.Common.{◌≡◌, ◌∙◌, ap, sym, subst, ℕ, ◌+◌, ◌<◌, ◌⊎◌, inl, inr, List, [], ◌∷◌, ◌++◌, length, Some, slice_get, get_or, arith, length-append}
use Rattle.std.proofs.lemmas.Option.{slice_get_within, get_or_from_slice_get}
use Rattle.fp_base.proofs.Lists.{get_last, get_before}

-- one for each of the first so many
pub record Fills {A B : Type 0} (make : ℕ → A → B) (xs : List A) (n : ℕ) (ys : List B) : Type 0 where
  pub each : length ys ≡ n
  pub of : (k : ℕ) (x : A) → k < n → slice_get xs k ≡ Some x → slice_get ys k ≡ Some (make k x)

pub fills_more : {A B : Type 0} (make : ℕ → A → B) (xs : List A) (n : ℕ) (ys zs : List B) (d : A) (y : B) → n < length xs → Fills make xs n ys → zs ≡ ys ++ y ∷ [] → y ≡ make n (get_or xs n d) → Fills make xs (n + 1) zs
fills_more {A = A} {B = B} make xs n ys zs d y l fills is made =
    subst (λ (ws : List B). Fills make xs (n + 1) ws) (sym is)
    (record {
      each = let more : length (ys ++ y ∷ []) ≡ length ys + 1 = length-append ys (y ∷ []) in omega (arith, fills.each);
      of = λ k x m at. by k x (below_or_at k m) at;
    })
  where
    below_or_at : (k : ℕ) → k < n + 1 → (k < n) ⊎ (k ≡ n)
    below_or_at k m = grind arith

    by : (k : ℕ) (x : A) → (k < n) ⊎ (k ≡ n) → slice_get xs k ≡ Some x → slice_get (ys ++ y ∷ []) k ≡ Some (make k x)
    by k x (inl m) at = get_before ys (y ∷ []) k (omega (arith, fills.each)) ∙ fills.of k x m at
    by k x (inr e) at =
        let here : get_or xs n d ≡ x = ap (λ (j : ℕ). get_or xs j d) (sym e) ∙ get_or_from_slice_get xs k x d at in
        ap (λ (j : ℕ). slice_get (ys ++ y ∷ []) j) (e ∙ sym fills.each) ∙ get_last ys y
        ∙ ap (λ (z : B). Some z) (made ∙ ap (λ (j : ℕ). make j (get_or xs n d)) (sym e) ∙ ap (make k) here)

-- of all
pub filled : {A B : Type 0} (make : ℕ → A → B) (xs : List A) (n : ℕ) (ys : List B) → n ≡ length xs → Fills make xs n ys
    → (length ys ≡ length xs) × ((k : ℕ) (x : A) → slice_get xs k ≡ Some x → slice_get ys k ≡ Some (make k x))
filled make xs n ys e fills = (fills.each ∙ e, λ k x at. let within = slice_get_within xs k x at in fills.of k x (omega arith) at)
