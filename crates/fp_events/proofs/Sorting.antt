-- Two lists in order of stamps with the same projections are the same, over any entries.
use Rattle.std.proofs.Common.{◌≡◌, ℕ, ◌+◌, ◌<◌, ◌≤◌, zero-le, Bool, List, [], ◌∷◌, filter, true, false, refl, sym, ap, ap₂, ◌∙◌, arith, add-one}
use Rattle.std.specs.Prelude.{⊤}
use Rattle.std.specs.List.Sorted.{IsSortedBy}
use Rattle.fp_events.specs.SystemRun.{Rises}

pub filter-swap : {E : Type 0} (p q : E → Bool) → (xs : List E) → filter p (filter q xs) ≡ filter q (filter p xs)
filter-swap p q [] = refl
filter-swap {E} p q (x ∷ xs) = go (p x) (q x) refl refl (filter-swap p q xs)
  where
    go : (b c : Bool) → p x ≡ b → q x ≡ c → filter p (filter q xs) ≡ filter q (filter p xs) → filter p (filter q (x ∷ xs)) ≡ filter q (filter p (x ∷ xs))
    go true true e f h = simp (e, f, h)
    go true false e f h = simp (e, f, h)
    go false true e f h = simp (e, f, h)
    go false false e f h = simp (e, f, h)

-- the stamps do not fall, from n on
abbrev pub NeverFalls : {E : Type 0} → (E → ℕ) → ℕ → List E → Type 0
NeverFalls stamp n [] = ⊤
NeverFalls stamp n (e ∷ es) = (n ≤ stamp e) × NeverFalls stamp (stamp e) es

module _ {E : Type 0} (stamp : E → ℕ) where
  -- a list in an order under which stamps do not fall
  module _ (lt : E → E → Bool) (by_stamp : (e f : E) → lt f e ≡ false → stamp e ≤ stamp f) where
    never_falls_after : (e : E) (es : List E) → IsSortedBy lt (e ∷ es) → NeverFalls stamp (stamp e) es
    never_falls_after e [] h = tt
    never_falls_after e (f ∷ es) h = (
      by_stamp e f (h 0 e (omega arith) (omega arith)),
      never_falls_after f es (λ k d low high. simp add-one (simp add-one at (h (k + 1) d (omega arith) (omega arith)))),
    )

    pub never_falls : (es : List E) → IsSortedBy lt es → NeverFalls stamp 0 es
    never_falls [] h = tt
    never_falls (e ∷ es) h = (zero-le, never_falls_after e es h)

  NeverFalls-weaker : (m n : ℕ) (es : List E) → n ≤ m → NeverFalls stamp m es → NeverFalls stamp n es
  NeverFalls-weaker m n [] le h = tt
  NeverFalls-weaker m n (e ∷ es) le h = (omega (arith, h.0), h.1)

  pub NeverFalls-filter : (p : E → Bool) (es : List E) (n : ℕ) → NeverFalls stamp n es → NeverFalls stamp n (filter p es)
  NeverFalls-filter p [] n h = tt
  NeverFalls-filter p (e ∷ es) n h = go (p e) refl (NeverFalls-filter p es (stamp e) h.1)
    where
      go : (b : Bool) → p e ≡ b → NeverFalls stamp (stamp e) (filter p es) → NeverFalls stamp n (filter p (e ∷ es))
      go true is rest = rw is (h.0, rest)
      go false is rest = rw is (NeverFalls-weaker (stamp e) n (filter p es) h.0 rest)

  Rises-weaker : (m n : ℕ) (es : List E) → n ≤ m → Rises stamp m es → Rises stamp n es
  Rises-weaker m n [] le h = tt
  Rises-weaker m n (e ∷ es) le h = (omega (arith, h.0), h.1)

  pub Rises-filter : (p : E → Bool) (es : List E) (n : ℕ) → Rises stamp n es → Rises stamp n (filter p es)
  Rises-filter p [] n h = tt
  Rises-filter p (e ∷ es) n h = go (p e) refl (Rises-filter p es (stamp e) h.1)
    where
      go : (b : Bool) → p e ≡ b → Rises stamp (stamp e) (filter p es) → Rises stamp n (filter p (e ∷ es))
      go true is rest = rw is (h.0, rest)
      go false is rest = let low : n < stamp e = h.0 in rw is (Rises-weaker (stamp e) n (filter p es) (omega arith) rest)

  -- the first entry that passes a test
  Rises-first : (p : E → Bool) (es : List E) (n : ℕ) (x : E) (xs : List E) → Rises stamp n es → filter p es ≡ x ∷ xs → n < stamp x
  Rises-first p [] n x xs h same = absurd (cc)
  Rises-first p (e ∷ es) n x xs h same = go (p e) refl (Rises-first p es (stamp e) x xs h.1)
    where
      go : (b : Bool) → p e ≡ b → (filter p es ≡ x ∷ xs → stamp e < stamp x) → n < stamp x
      go true is rest = let list : e ∷ filter p es ≡ x ∷ xs = rw is at same in let head : e ≡ x = cc in rw (← head) h.0
      go false is rest = let above : stamp e < stamp x = rest (rw is at same) in let low : n < stamp e = h.0 in omega arith

  NeverFalls-first : (p : E → Bool) (es : List E) (n : ℕ) (x : E) (xs : List E) → NeverFalls stamp n es → filter p es ≡ x ∷ xs → n ≤ stamp x
  NeverFalls-first p [] n x xs h same = absurd (cc)
  NeverFalls-first p (e ∷ es) n x xs h same = go (p e) refl (NeverFalls-first p es (stamp e) x xs h.1)
    where
      go : (b : Bool) → p e ≡ b → (filter p es ≡ x ∷ xs → stamp e ≤ stamp x) → n ≤ stamp x
      go true is rest = let list : e ∷ filter p es ≡ x ∷ xs = rw is at same in let head : e ≡ x = cc in rw (← head) h.0
      go false is rest = let above : stamp e ≤ stamp x = rest (rw is at same) in let low : n ≤ stamp e = h.0 in omega arith

  module _ (like : E → E → Bool) (like_self : (x : E) → like x x ≡ true) where
    -- the tails have the same projections where the heads are one
    tails_alike : (x : E) (xs ys : List E) → ((z : E) → filter (like z) (x ∷ xs) ≡ filter (like z) (x ∷ ys)) → (z : E) → filter (like z) xs ≡ filter (like z) ys
    tails_alike x xs ys same z = go (like z x) refl (same z)
      where
        go : (b : Bool) → like z x ≡ b → filter (like z) (x ∷ xs) ≡ filter (like z) (x ∷ ys) → filter (like z) xs ≡ filter (like z) ys
        go true is h = let list : x ∷ filter (like z) xs ≡ x ∷ filter (like z) ys = rw is at h in cc
        go false is h = rw is at h

    -- lists whose entries like any one are the same, one not falling and one rising, have the same head
    heads_alike : (x y : E) (xs ys : List E) → NeverFalls stamp (stamp x) xs → Rises stamp (stamp y) ys → ((z : E) → filter (like z) (x ∷ xs) ≡ filter (like z) (y ∷ ys)) → x ≡ y
    heads_alike x y xs ys falls rises same = go (like x y) (like y x) refl refl
      where
        go : (b c : Bool) → like x y ≡ b → like y x ≡ c → x ≡ y
        go true c is other = let list : x ∷ filter (like x) xs ≡ y ∷ filter (like x) ys = rw (like_self x, is) at (same x) in cc
        go false true is other = let list : x ∷ filter (like y) xs ≡ y ∷ filter (like y) ys = rw (other, like_self y) at (same y) in cc
        go false false is other =
            let mine : x ∷ filter (like x) xs ≡ filter (like x) ys = rw (like_self x, is) at (same x) in
            let yours : filter (like y) xs ≡ y ∷ filter (like y) ys = rw (other, like_self y) at (same y) in
            let above : stamp y < stamp x = Rises-first (like x) ys (stamp y) x (filter (like x) xs) rises (sym mine) in
            let below : stamp x ≤ stamp y = NeverFalls-first (like y) xs (stamp x) y (filter (like y) ys) falls yours in
            absurd (omega arith)

    pub same_list : (xs ys : List E) (m n : ℕ) → NeverFalls stamp m xs → Rises stamp n ys → ((z : E) → filter (like z) xs ≡ filter (like z) ys) → xs ≡ ys
    same_list [] [] m n falls rises same = refl
    same_list [] (y ∷ ys) m n falls rises same = let list : [] ≡ y ∷ filter (like y) ys = rw (like_self y) at (same y) in absurd (cc)
    same_list (x ∷ xs) [] m n falls rises same = let list : x ∷ filter (like x) xs ≡ [] = rw (like_self x) at (same x) in absurd (cc)
    same_list (x ∷ xs) (y ∷ ys) m n falls rises same =
        let head : x ≡ y = heads_alike x y xs ys falls.1 rises.1 same in
        let tail : xs ≡ ys = same_list xs ys (stamp x) (stamp y) falls.1 rises.1 (tails_alike x xs ys (λ z. same z ∙ ap (λ w. filter (like z) (w ∷ ys)) (sym head))) in
        ap₂ ◌∷◌ head tail
