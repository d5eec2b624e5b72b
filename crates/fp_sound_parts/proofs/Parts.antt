-- What members of a state have by their forms, and the elements that have it.
use Rattle.std.proofs.Common.{◌≡◌, ℕ, zero, suc, ◌<◌, ◌==◌, ◌||◌, not, Bool, true, false, cond, List, [], ◌∷◌, map, filter, slice_get, Option, Some, None, refl, sym, ap, ◌∙◌, arith}
use Rattle.std.specs.List.{filter_map, cons_option, list_any}
use Rattle.std.proofs.lemmas.Bool.Decides.{nat_tests}
use Rattle.fp_base.proofs.Bools.{join}
use Rattle.fp_tables.specs.Names.{numbers_differ}

-- an element that passes, and what it has
pub record Has {E A : Type 0} (test : E → Bool) (part : E → Option A) (xs : List E) (y : A) : Type 0 where
  pub at : ℕ
  pub element : E
  pub here : slice_get xs at ≡ Some element
  pub passes : test element ≡ true
  pub gives : part element ≡ Some y

module _ {E A : Type 0} (test : E → Bool) (part : E → Option A) where
  abbrev pub parts : List E → List A
  parts xs = filter_map part (filter test xs)

  later : (x : E) (xs : List E) (y : A) → Has test part xs y → Has test part (x ∷ xs) y
  later x xs y h = record { at = suc h.at; element = h.element; here = h.here; passes = h.passes; gives = h.gives }

  pub part_there : (xs : List E) (k : ℕ) (y : A) → slice_get (parts xs) k ≡ Some y → Has test part xs y
  part_there [] k y h = absurd cc
  part_there (x ∷ xs) k y h = go (test x) refl (part x) refl k h (λ j e. later x xs y (part_there xs j y e))
    where
      go : (b : Bool) → test x ≡ b → (o : Option A) → part x ≡ o → (k : ℕ) → slice_get (filter_map part (cond b (x ∷ filter test xs) (filter test xs))) k ≡ Some y
          → ((j : ℕ) → slice_get (parts xs) j ≡ Some y → Has test part (x ∷ xs) y) → Has test part (x ∷ xs) y
      go false t o p k h rest = rest k h
      go true t None p k h rest = rest k (ap (λ (o : Option A). slice_get (cons_option o (parts xs)) k) (sym p) ∙ h)
      go true t (Some z) p zero h rest =
          record { at = 0; element = x; here = refl; passes = t; gives = p ∙ (ap (λ (o : Option A). slice_get (cons_option o (parts xs)) 0) (sym p) ∙ h) }
      go true t (Some z) p (suc k) h rest = rest k (ap (λ (o : Option A). slice_get (cons_option o (parts xs)) (suc k)) (sym p) ∙ h)

-- ---- numbers of parts that differ

module _ {E A : Type 0} (test : E → Bool) (part : E → Option A) (number : A → ℕ) where
  -- no two elements that pass have one number
  abbrev pub AreApart : List E → Type 0
  AreApart xs = (i j : ℕ) (d e : E) (y z : A) → i < j → slice_get xs i ≡ Some d → slice_get xs j ≡ Some e → test d ≡ true → test e ≡ true
      → part d ≡ Some y → part e ≡ Some z → number y ≡ number z → ⊥

  none_same : (n : ℕ) (xs : List E) → ((y : A) → Has test part xs y → n ≡ number y → ⊥) → list_any (λ (m : ℕ). n == m) (map number (parts test part xs)) ≡ false
  none_same n xs h = over (parts test part xs) (λ k y e. h y (part_there test part xs k y e))
    where
      over : (ys : List A) → ((k : ℕ) (y : A) → slice_get ys k ≡ Some y → n ≡ number y → ⊥) → list_any (λ (m : ℕ). n == m) (map number ys) ≡ false
      over [] each = refl
      over (y ∷ ys) each = both_false (n == number y) (list_any (λ (m : ℕ). n == m) (map number ys)) (unlike n (number y) (each 0 y refl)) (over ys (λ k z e. each (suc k) z e))
        where
          unlike : (a b : ℕ) → (a ≡ b → ⊥) → (a == b) ≡ false
          unlike a b h = go (a == b) refl
            where
              go : (c : Bool) → (a == b) ≡ c → (a == b) ≡ false
              go false e = e
              go true e = let same : a ≡ b = grind (arith, nat_tests) in absurd (h same)

          both_false : (a b : Bool) → a ≡ false → b ≡ false → (a || b) ≡ false
          both_false false b p q = q
          both_false true b p q = absurd cc

  pub parts_differ : (xs : List E) → AreApart xs → numbers_differ (map number (parts test part xs)) ≡ true
  parts_differ [] h = refl
  parts_differ (x ∷ xs) h = go (test x) refl (part x) refl (parts_differ xs (λ i j d e y z l. h (suc i) (suc j) d e y z (omega arith)))
    where
      go : (b : Bool) → test x ≡ b → (o : Option A) → part x ≡ o → numbers_differ (map number (parts test part xs)) ≡ true
          → numbers_differ (map number (filter_map part (cond b (x ∷ filter test xs) (filter test xs)))) ≡ true
      go false t o p rest = rest
      go true t None p rest = ap (λ (o : Option A). numbers_differ (map number (cons_option o (parts test part xs)))) p ∙ rest
      go true t (Some y) p rest =
          ap (λ (o : Option A). numbers_differ (map number (cons_option o (parts test part xs)))) p
          ∙ join (not (list_any (λ (m : ℕ). number y == m) (map number (parts test part xs)))) (numbers_differ (map number (parts test part xs)))
          (flip (list_any (λ (m : ℕ). number y == m) (map number (parts test part xs)))
          (none_same (number y) xs (λ z g same. h 0 (suc g.at) x g.element y z (omega arith) refl g.here t g.passes p g.gives same)))
          rest
        where
          flip : (c : Bool) → c ≡ false → not c ≡ true
          flip true e = absurd cc
          flip false e = refl
