-- Lists whose items stand with their positions.
use Rattle.std.proofs.Common.{◌≡◌, ℕ, ◌+◌, ◌<◌, ◌≤◌, List, [], ◌∷◌, ◌++◌, length, take, get_or, flat_map, ap, subst, sym, ◌∙◌, arith}
use Rattle.std.specs.List.{enumerate_from}
use Rattle.std.proofs.lemmas.List.{take_more, take_all, flat_map_more}
use Rattle.std.proofs.lemmas.List.FromFn.{length-enumerate_from, get_or-enumerate_from}

module _ {A B : Type 0} (f : ℕ × A → List B) (xs : List A) (i : ℕ) (d : A) (lt : i < length xs) where
  zero_before : 0 + i ≡ i
  zero_before = omega arith

  one_numbered : take (i + 1) (enumerate_from 0 xs) ≡ take i (enumerate_from 0 xs) ++ (i, get_or xs i d) ∷ []
  one_numbered =
      take_more (enumerate_from 0 xs) i (0, d) (subst (λ n. i < n) (sym (length-enumerate_from 0 xs)) lt)
      ∙ ap (λ (y : ℕ × A). take i (enumerate_from 0 xs) ++ y ∷ []) (get_or-enumerate_from 0 xs i (0, d) lt)
      ∙ ap (λ (n : ℕ). take i (enumerate_from 0 xs) ++ (n, get_or xs i d) ∷ []) zero_before

  -- what is given of one item more
  pub one_more : (old before now : List B) → d ≡ get_or xs i d → before ≡ old ++ flat_map f (take i (enumerate_from 0 xs)) → now ≡ before ++ f (i, d) →
      now ≡ old ++ flat_map f (take (i + 1) (enumerate_from 0 xs))
  one_more old before now is stood given =
      given ∙ ap (λ (bs : List B). bs ++ f (i, d)) stood
      ∙ ap (λ (y : A). (old ++ flat_map f (take i (enumerate_from 0 xs))) ++ f (i, y)) is
      ∙ flat_map_more f old (take i (enumerate_from 0 xs)) (i, get_or xs i d)
      ∙ ap (λ (ys : List (ℕ × A)). old ++ flat_map f ys) (sym one_numbered)

-- what is given of all items
pub all_numbered : {A B : Type 0} (f : ℕ × A → List B) (xs : List A) (i : ℕ) → length xs ≤ i → (old now : List B) → now ≡ old ++ flat_map f (take i (enumerate_from 0 xs)) →
    now ≡ old ++ flat_map f (enumerate_from 0 xs)
all_numbered {A} f xs i past old now stood =
    stood ∙ ap (λ (ys : List (ℕ × A)). old ++ flat_map f ys) (take_all i (enumerate_from 0 xs) (subst (λ (n : ℕ). n ≤ i) (sym (length-enumerate_from 0 xs)) past))
