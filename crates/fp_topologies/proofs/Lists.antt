-- What is the same of each item is so of what all give.
use Rattle.std.proofs.Common.{◌≡◌, ◌∙◌, ℕ, zero, suc, List, [], ◌∷◌, ◌++◌, flat_map, slice_get, Some, refl, ap}

-- what is the same of each item
pub flat_same : {A B : Type 0} (f g : A → List B) (xs : List A) → ((k : ℕ) (x : A) → slice_get xs k ≡ Some x → f x ≡ g x) → flat_map f xs ≡ flat_map g xs
flat_same f g [] same = refl
flat_same {B = B} f g (x ∷ xs) same =
    ap (λ (ys : List B). ys ++ flat_map f xs) (same zero x refl) ∙ ap (λ (ys : List B). g x ++ ys) (flat_same f g xs (λ k y e. same (suc k) y e))
