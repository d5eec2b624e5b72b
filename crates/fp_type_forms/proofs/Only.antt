-- What there is only one of, put together from its parts; and lists that are related place by place.
use Rattle.std.proofs.Common.{◌≡◌, ℕ, suc, ◌+◌, List, [], ◌∷◌, ◌++◌, length, Option, Some, None, option_map, refl, sym, ap, ◌∙◌, subst, arith}
use Rattle.std.specs.Prelude.{option_and_then}
use Rattle.fp_base.proofs.Options.{same_some, no_some}
use Rattle.fp_type_forms.specs.Written.{IsOnly, AllAt}
use Rattle.fp_type_forms.specs.Resolved.{both_there, one_more}

pub only_same : {A : Type 0} (P : A → Type 0) {o q : Option A} → q ≡ o → IsOnly P o → IsOnly P q
only_same P e h = subst (λ x. IsOnly P x) (sym e) h

pub only_this : {A : Type 0} (x : A) → IsOnly (λ y. y ≡ x) (Some x)
only_this x = record { holds = λ y e. sym (same_some e); only = λ y e. ap (λ z. Some z) (sym e) }

pub only_mapped : {A B : Type 0} (P : A → Type 0) (g : A → B) (o : Option A) → IsOnly P o → IsOnly (λ z. (x : A) × P x × (z ≡ g x)) (option_map g o)
only_mapped P g None h = record { holds = λ z e. no_some e; only = λ z t. no_some (h.only t.0 t.1) }
only_mapped P g (Some x) h = record {
  holds = λ z e. (x, h.holds x refl, sym (same_some e));
  only = λ z t. ap (λ y. Some (g y)) (same_some (h.only t.0 t.1)) ∙ ap (λ w. Some w) (sym t.2);
}

pub only_then : {A B : Type 0} (P : A → Type 0) (f : A → Option B) (o : Option A) → IsOnly P o → IsOnly (λ z. (x : A) × P x × (f x ≡ Some z)) (option_and_then f o)
only_then P f None h = record { holds = λ z e. no_some e; only = λ z t. no_some (h.only t.0 t.1) }
only_then P f (Some x) h = record {
  holds = λ z e. (x, h.holds x refl, e);
  only = λ z t. ap f (same_some (h.only t.0 t.1)) ∙ t.2;
}

pub only_both : {A B C : Type 0} (P : A → Type 0) (Q : B → Type 0) (g : A → B → C) (o : Option A) (q : Option B) → IsOnly P o → IsOnly Q q
    → IsOnly (λ z. (x : A) × (y : B) × P x × Q y × (z ≡ g x y)) (both_there g o q)
only_both P Q g None q h k = record { holds = λ z e. no_some e; only = λ z t. no_some (h.only t.0 t.2) }
only_both P Q g (Some x) None h k = record { holds = λ z e. no_some e; only = λ z t. no_some (k.only t.1 t.3) }
only_both P Q g (Some x) (Some y) h k = record {
  holds = λ z e. (x, y, h.holds x refl, k.holds y refl, sym (same_some e));
  only = λ z t.
      ap (λ a. Some (g a y)) (same_some (h.only t.0 t.2)) ∙ ap (λ b. Some (g t.0 b)) (same_some (k.only t.1 t.3)) ∙ ap (λ w. Some w) (sym t.4);
}

-- ---- lists that are related place by place

module _ {A B : Type 0} (R : ℕ → A → B → Type 0) where
  all_more : (k n : ℕ) (xs : List A) (ys : List B) (x : A) (y : B) → n ≡ k + length xs → AllAt R k xs ys → R n x y → AllAt R k (xs ++ x ∷ []) (ys ++ y ∷ [])
  all_more k n [] [] x y e h r = (subst (λ m. R m x y) (omega arith) r, tt)
  all_more k n [] (b ∷ ys) x y e h r = absurd h
  all_more k n (a ∷ xs) [] x y e h r = absurd h
  all_more k n (a ∷ xs) (b ∷ ys) x y e h r = (h.0, all_more (suc k) n xs ys x y (omega arith) h.1 r)

  -- the last of each
  record Ends (k n : ℕ) (xs : List A) (x : A) (zs : List B) : Type 0 where
    before : List B
    last : B
    put : zs ≡ before ++ last ∷ []
    related : AllAt R k xs before
    here : R n x last

  all_last : (k n : ℕ) (xs : List A) (x : A) (zs : List B) → n ≡ k + length xs → AllAt R k (xs ++ x ∷ []) zs → Ends k n xs x zs
  all_last k n [] x [] e h = absurd h
  all_last k n [] x (z ∷ []) e h = record { before = []; last = z; put = refl; related = tt; here = subst (λ m. R m x z) (omega arith) h.0 }
  all_last k n [] x (z ∷ w ∷ zs) e h = absurd h.1
  all_last k n (a ∷ xs) x [] e h = absurd h
  all_last k n (a ∷ xs) x (z ∷ zs) e h =
      let t = all_last (suc k) n xs x zs (omega arith) h.1 in
      record { before = z ∷ t.before; last = t.last; put = ap (λ l. z ∷ l) t.put; related = (h.0, t.related); here = t.here }

  pub only_nothing : IsOnly (AllAt R 0 []) (Some [])
  only_nothing = record { holds = λ ys e. subst (λ l. AllAt R 0 [] l) (same_some e) tt; only = λ ys h. empty ys h }
    where
      empty : (ys : List B) → AllAt R 0 [] ys → Some [] ≡ Some ys
      empty [] h = refl
      empty (y ∷ ys) h = absurd h

  pub only_more : (n : ℕ) (xs : List A) (x : A) (r : Option (List B)) (o : Option B) → n ≡ length xs → IsOnly (AllAt R 0 xs) r → IsOnly (R n x) o
      → IsOnly (AllAt R 0 (xs ++ x ∷ [])) (one_more r o)
  only_more n xs x None o e h k = record {
    holds = λ zs f. no_some f;
    only = λ zs t. let ends = all_last 0 n xs x zs (omega arith) t in no_some (h.only ends.before ends.related);
  }
  only_more n xs x (Some ys) None e h k = record {
    holds = λ zs f. no_some f;
    only = λ zs t. let ends = all_last 0 n xs x zs (omega arith) t in no_some (k.only ends.last ends.here);
  }
  only_more n xs x (Some ys) (Some y) e h k = record {
    holds = λ zs f. subst (λ l. AllAt R 0 (xs ++ x ∷ []) l) (same_some f) (all_more 0 n xs ys x y (omega arith) (h.holds ys refl) (k.holds y refl));
    only = λ zs t.
        let ends = all_last 0 n xs x zs (omega arith) t in
        ap (λ l. Some (l ++ y ∷ [])) (same_some (h.only ends.before ends.related)) ∙ ap (λ z. Some (ends.before ++ z ∷ [])) (same_some (k.only ends.last ends.here))
        ∙ ap (λ l. Some l) (sym ends.put);
  }

  pub all_one : ((k : ℕ) (x : A) (y z : B) → R k x y → R k x z → y ≡ z) → (k : ℕ) (xs : List A) (ys zs : List B) → AllAt R k xs ys → AllAt R k xs zs → ys ≡ zs
  all_one one k [] [] [] h g = refl
  all_one one k [] [] (z ∷ zs) h g = absurd g
  all_one one k [] (y ∷ ys) zs h g = absurd h
  all_one one k (x ∷ xs) [] zs h g = absurd h
  all_one one k (x ∷ xs) (y ∷ ys) [] h g = absurd g
  all_one one k (x ∷ xs) (y ∷ ys) (z ∷ zs) h g = ap (λ w. w ∷ ys) (one k x y z h.0 g.0) ∙ ap (λ l. z ∷ l) (all_one one (suc k) xs ys zs h.1 g.1)

-- where the place plays no part
module _ {A B : Type 0} (R : A → B → Type 0) where
  all_moved : (j k : ℕ) (xs : List A) (ys : List B) → AllAt (λ n. R) j xs ys → AllAt (λ n. R) k xs ys
  all_moved j k [] [] h = tt
  all_moved j k [] (y ∷ ys) h = absurd h
  all_moved j k (x ∷ xs) [] h = absurd h
  all_moved j k (x ∷ xs) (y ∷ ys) h = (h.0, all_moved (suc j) (suc k) xs ys h.1)

  pub all_joined : (j k : ℕ) (xs us : List A) (ys vs : List B) → AllAt (λ n. R) j xs ys → AllAt (λ n. R) k us vs → AllAt (λ n. R) j (xs ++ us) (ys ++ vs)
  all_joined j k [] us [] vs h g = all_moved k j us vs g
  all_joined j k [] us (y ∷ ys) vs h g = absurd h
  all_joined j k (x ∷ xs) us [] vs h g = absurd h
  all_joined j k (x ∷ xs) us (y ∷ ys) vs h g = (h.0, all_joined (suc j) k xs us ys vs h.1 g)
