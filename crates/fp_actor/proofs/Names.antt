-- Names that are looked up among bindings.
use Rattle.std.proofs.Common.{◌≡◌, ℕ, Bool, true, false, eqb, IsTrue, ◌↔◌, List, [], ◌∷◌, ◌++◌, map, reverse, refl, sym, ◌∙◌, subst, arith}
use Rattle.std.proofs.lemmas.Bool.Decides.{nat_tests}
use Rattle.std.proofs.lemmas.List.{reverse-append}
use Rattle.fp_base.proofs.Bools.{both}
use Rattle.fp_base.specs.Same.{same_text}

same_self : (xs : List ℕ) → same_text xs xs ≡ true
same_self [] = refl
same_self (x ∷ xs) = let here : eqb x x ≡ true = grind (arith, nat_tests) in rw (here, same_self xs) refl

same_means : (xs ys : List ℕ) → same_text xs ys ≡ true → xs ≡ ys
same_means [] [] e = refl
same_means [] (y ∷ ys) e = absurd (cc)
same_means (x ∷ xs) [] e = absurd (cc)
same_means (x ∷ xs) (y ∷ ys) e =
    let parts = both (eqb x y) (same_text xs ys) e in
    let here : x ≡ y = grind (arith, nat_tests, parts.0) in
    let there = same_means xs ys parts.1 in cc

pub is_same_text : (r : Bool) (xs ys : List ℕ) → (IsTrue r ↔ (xs ≡ ys)) → r ≡ same_text xs ys
is_same_text r xs ys h = go r (same_text xs ys) refl refl
  where
    go : (a b : Bool) → r ≡ a → same_text xs ys ≡ b → r ≡ same_text xs ys
    go true true e f = e ∙ sym f
    go false false e f = e ∙ sym f
    go true false e f =
        let same : xs ≡ ys = h.0 e in
        let told : same_text xs ys ≡ true = subst (λ (zs : List ℕ). same_text xs zs ≡ true) same (same_self xs) in absurd (cc)
    go false true e f = let told : r ≡ true = h.1 (same_means xs ys f) in absurd (cc)

pub latest_first : {A B : Type 0} (f : A → B) (xs : List A) (x : A) → map f (reverse (xs ++ x ∷ [])) ≡ f x ∷ map f (reverse xs)
latest_first f xs x = rw reverse-append refl
