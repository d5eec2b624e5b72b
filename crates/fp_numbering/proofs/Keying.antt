-- Whole pairs by keys.
use Rattle.std.proofs.Common.{◌≡◌, ◌∙◌, ap, refl, sym, subst, ℕ, zero, suc, ◌+◌, ◌<◌, ◌⊎◌, inl, inr, Bool, true, false, not, ◌&&◌, cond, List, [], ◌∷◌, ◌++◌, length, map, Option, None, Some, slice_get, get_or, arith}
use Rattle.std.specs.Prelude.{flat_map, filter, ◌==◌, ◌↔◌}
use Rattle.std.specs.List.{list_any, list_all, Contains}
use Rattle.std.proofs.lemmas.Bool.Decides.{nat_tests}
use Rattle.fp_tables.specs.Lists.{some_and}
use Rattle.fp_base.proofs.Bools.{join, not_true, or_cases, or_left, or_right}
use Rattle.fp_base.proofs.Numbers.{same_number, number_same}
use Rattle.fp_numbering.specs.declared.tips.Tip.{Tip}
use Rattle.fp_numbering.specs.Ends.{at_one_port}
use Rattle.fp_numbering.specs.Numbers.{is_at_port_of}
use Rattle.fp_numbering.specs.Pairs.{has, places_from, are_alike, is_at, matches_at, paired_by, pairs_at, pairs, alike_at, is_whole_by, is_whole}
use Rattle.fp_numbering.specs.Keys.{linked, is_of_key, IsWholeClass}
use Rattle.fp_numbering.proofs.Unique.{both_left, both_right}
use Rattle.fp_numbering.proofs.Joining.{Member, of_filter, to_filter, joined_related, closed}

-- ---- lists

pub of_contains : {A : Type 0} (xs : List A) (x : A) (k : ℕ) → k < length xs → get_or xs k x ≡ x → Member x xs
of_contains [] x k l e = absurd (omega arith)
of_contains (y ∷ xs) x zero l e = inl e
of_contains (y ∷ xs) x (suc k) l e = inr (of_contains xs x k (omega arith) e)

pub of_map : {A B : Type 0} (f : A → B) (xs : List A) (y : B) → Member y (map f xs) → (x : A) × Member x xs × (f x ≡ y)
of_map f [] y m = absurd m
of_map f (x ∷ xs) y (inl e) = (x, inl refl, e)
of_map f (x ∷ xs) y (inr m) = let r = of_map f xs y m in (r.0, inr r.1, r.2)

pub to_map : {A B : Type 0} (f : A → B) (xs : List A) (x : A) → Member x xs → Member (f x) (map f xs)
to_map f [] x m = absurd m
to_map f (y ∷ xs) x (inl e) = inl (ap f e)
to_map f (y ∷ xs) x (inr m) = inr (to_map f xs x m)

of_append : {A : Type 0} (xs ys : List A) (x : A) → Member x (xs ++ ys) → Member x xs ⊎ Member x ys
of_append [] ys x m = inr m
of_append (y ∷ xs) ys x (inl e) = inl (inl e)
of_append (y ∷ xs) ys x (inr m) = elim (of_append xs ys x m) [ inl a ↦ inl (inr a) | inr b ↦ inr b ]

to_append_left : {A : Type 0} (xs ys : List A) (x : A) → Member x xs → Member x (xs ++ ys)
to_append_left [] ys x m = absurd m
to_append_left (y ∷ xs) ys x (inl e) = inl e
to_append_left (y ∷ xs) ys x (inr m) = inr (to_append_left xs ys x m)

to_append_right : {A : Type 0} (xs ys : List A) (x : A) → Member x ys → Member x (xs ++ ys)
to_append_right [] ys x m = m
to_append_right (y ∷ xs) ys x m = inr (to_append_right xs ys x m)

pub of_flat : {A B : Type 0} (f : A → List B) (xs : List A) (y : B) → Member y (flat_map f xs) → (x : A) × Member x xs × Member y (f x)
of_flat f [] y m = absurd m
of_flat f (x ∷ xs) y m = elim (of_append (f x) (flat_map f xs) y m) [ inl a ↦ (x, inl refl, a) | inr b ↦ let r = of_flat f xs y b in (r.0, inr r.1, r.2) ]

pub to_flat : {A B : Type 0} (f : A → List B) (xs : List A) (k : ℕ) (x : A) (y : B) → slice_get xs k ≡ Some x → Member y (f x) → Member y (flat_map f xs)
to_flat f [] k x y at m = cc
to_flat {B = B} f (z ∷ xs) zero x y at m = let same : z ≡ x = cc in to_append_left (f z) (flat_map f xs) y (subst (λ w. Member y (f w)) (sym same) m)
to_flat f (z ∷ xs) (suc k) x y at m = to_append_right (f z) (flat_map f xs) y (to_flat f xs k x y at m)

pub of_places : {A : Type 0} (k : ℕ) (test : A → Bool) (xs : List A) (i : ℕ) → has (places_from k test xs) i ≡ true → (j : ℕ) × (x : A) × (i ≡ k + j) × (slice_get xs j ≡ Some x) × (test x ≡ true)
of_places k test [] i h = cc
of_places {A = A} k test (x ∷ xs) i h = part (test x) refl h (of_places (suc k) test xs i)
  where
    behind : ((j : ℕ) × (y : A) × (i ≡ suc k + j) × (slice_get xs j ≡ Some y) × (test y ≡ true)) → (j : ℕ) × (y : A) × (i ≡ k + j) × (slice_get (x ∷ xs) j ≡ Some y) × (test y ≡ true)
    behind r = let e = r.2 in (suc r.0, r.1, omega arith, r.3, r.4)

    part : (b : Bool) → test x ≡ b → has (cond b (k ∷ places_from (suc k) test xs) (places_from (suc k) test xs)) i ≡ true
        → (has (places_from (suc k) test xs) i ≡ true → (j : ℕ) × (y : A) × (i ≡ suc k + j) × (slice_get xs j ≡ Some y) × (test y ≡ true))
        → (j : ℕ) × (y : A) × (i ≡ k + j) × (slice_get (x ∷ xs) j ≡ Some y) × (test y ≡ true)
    part true e m rest =
        elim (or_cases (k == i) (has (places_from (suc k) test xs) i) m) [
          | inl s ↦ let same : k ≡ i = grind (arith, nat_tests) in (0, x, omega arith, refl, e)
          | inr n ↦ behind (rest n)
        ]
    part false e m rest = behind (rest m)

pub to_places : {A : Type 0} (k i : ℕ) (test : A → Bool) (xs : List A) (j : ℕ) (x : A) → i ≡ k + j → slice_get xs j ≡ Some x → test x ≡ true → has (places_from k test xs) i ≡ true
to_places k i test [] j x e at h = cc
to_places {A = A} k i test (y ∷ xs) zero x e at h =
    let same : y ≡ x = cc in
    let is : (k == i) ≡ true = grind (arith, nat_tests) in
    ap (λ (b : Bool). has (cond b (k ∷ places_from (suc k) test xs) (places_from (suc k) test xs)) i) (ap test same ∙ h) ∙ or_left (k == i) (has (places_from (suc k) test xs) i) is
to_places k i test (y ∷ xs) (suc j) x e at h = part (test y) (to_places (suc k) i test xs j x (omega arith) at h)
  where
    part : (b : Bool) → has (places_from (suc k) test xs) i ≡ true → has (cond b (k ∷ places_from (suc k) test xs) (places_from (suc k) test xs)) i ≡ true
    part true r = or_right (k == i) (has (places_from (suc k) test xs) i) r
    part false r = r

all_of : (test : ℕ → Bool) (g : List ℕ) (k : ℕ) → list_all test g ≡ true → has g k ≡ true → test k ≡ true
all_of test [] k h e = cc
all_of test (n ∷ g) k h e =
    elim (or_cases (n == k) (has g k) e) [
      | inl s ↦ let same : n ≡ k = grind (arith, nat_tests) in ap test (sym same) ∙ both_left (test n) (list_all test g) h
      | inr r ↦ all_of test g k (both_right (test n) (list_all test g) h) r
    ]

pub all_member : {A : Type 0} (test : A → Bool) (xs : List A) (x : A) → list_all test xs ≡ true → Member x xs → test x ≡ true
all_member test [] x h m = absurd m
all_member test (y ∷ xs) x h (inl e) = ap test (sym e) ∙ both_left (test y) (list_all test xs) h
all_member test (y ∷ xs) x h (inr m) = all_member test xs x (both_right (test y) (list_all test xs) h) m

-- ---- one item that passes

one_exists : {A : Type 0} (test : A → Bool) (xs : List A) → length (filter test xs) ≡ 1 → (j : ℕ) × (x : A) × (slice_get xs j ≡ Some x) × (test x ≡ true)
one_exists test [] h = absurd (omega arith)
one_exists {A = A} test (y ∷ xs) h = part (test y) refl h (one_exists test xs)
  where
    part : (b : Bool) → test y ≡ b → length (cond b (y ∷ filter test xs) (filter test xs)) ≡ 1 → (length (filter test xs) ≡ 1 → (j : ℕ) × (x : A) × (slice_get xs j ≡ Some x) × (test x ≡ true))
        → (j : ℕ) × (x : A) × (slice_get (y ∷ xs) j ≡ Some x) × (test x ≡ true)
    part true e l rest = (0, y, refl, e)
    part false e l rest = let r = rest l in (suc r.0, r.1, r.2, r.3)

pub some_pass : {A : Type 0} (test : A → Bool) (xs : List A) (i : ℕ) (x : A) → slice_get xs i ≡ Some x → test x ≡ true → 0 < length (filter test xs)
some_pass test [] i x at h = cc
some_pass test (y ∷ xs) zero x at h = let same : y ≡ x = cc in subst (λ (b : Bool). 0 < length (cond b (y ∷ filter test xs) (filter test xs))) (sym (ap test same ∙ h)) (omega arith)
some_pass test (y ∷ xs) (suc i) x at h = part (test y) (some_pass test xs i x at h)
  where
    part : (b : Bool) → 0 < length (filter test xs) → 0 < length (cond b (y ∷ filter test xs) (filter test xs))
    part true r = omega arith
    part false r = r

pub one_only : {A : Type 0} (test : A → Bool) (xs : List A) (i j : ℕ) (x y : A) → length (filter test xs) ≡ 1 → slice_get xs i ≡ Some x → test x ≡ true → slice_get xs j ≡ Some y → test y ≡ true → i ≡ j
one_only test [] i j x y l a p b q = cc
one_only test (z ∷ xs) zero zero x y l a p b q = refl
one_only test (z ∷ xs) zero (suc j) x y l a p b q =
    let same : z ≡ x = cc in
    let more : length (cond true (z ∷ filter test xs) (filter test xs)) ≡ 1 = subst (λ (c : Bool). length (cond c (z ∷ filter test xs) (filter test xs)) ≡ 1) (ap test same ∙ p) l in
    let some = some_pass test xs j y b q in
    absurd (omega arith)
one_only test (z ∷ xs) (suc i) zero x y l a p b q =
    let same : z ≡ y = cc in
    let more : length (cond true (z ∷ filter test xs) (filter test xs)) ≡ 1 = subst (λ (c : Bool). length (cond c (z ∷ filter test xs) (filter test xs)) ≡ 1) (ap test same ∙ q) l in
    let some = some_pass test xs i x a p in
    absurd (omega arith)
one_only test (z ∷ xs) (suc i) (suc j) x y l a p b q =
    ap (λ (n : ℕ). suc n) (one_only test xs i j x y (part (test z) l (some_pass test xs i x a p)) a p b q)
  where
    part : (c : Bool) → length (cond c (z ∷ filter test xs) (filter test xs)) ≡ 1 → 0 < length (filter test xs) → length (filter test xs) ≡ 1
    part true m n = absurd (omega arith)
    part false m n = m

-- ---- ends that are alike

abbrev pub Alike : Tip → Tip → Type 0
Alike s t = (s.unmatched ≡ false) × (t.unmatched ≡ false) × (s.instance ≡ t.instance) × (s.other ≡ t.other)

pub alike_is : (s t : Tip) → are_alike s t ≡ true → Alike s t
alike_is s t h = part (not s.unmatched) (not t.unmatched) (s.instance == t.instance) (s.other == t.other) refl refl refl refl h
  where
    part : (a b c d : Bool) → not s.unmatched ≡ a → not t.unmatched ≡ b → (s.instance == t.instance) ≡ c → (s.other == t.other) ≡ d → (a && b && c && d) ≡ true → Alike s t
    part true true true true a b c d e = (not_true s.unmatched a, not_true t.unmatched b, same_number s.instance t.instance c, same_number s.other t.other d)
    part true true true false a b c d e = cc
    part true true false y a b c d e = cc
    part true false x y a b c d e = cc
    part false w x y a b c d e = cc

pub alike_from : (s t : Tip) → Alike s t → are_alike s t ≡ true
alike_from s t h =
    ap (λ (b : Bool). not b && not t.unmatched && s.instance == t.instance && s.other == t.other) h.0
    ∙ ap (λ (b : Bool). not b && s.instance == t.instance && s.other == t.other) h.1
    ∙ ap (λ (b : Bool). b && s.other == t.other) (number_same s.instance t.instance h.2)
    ∙ number_same s.other t.other h.3

pub alike_back : (s t : Tip) → are_alike s t ≡ true → are_alike t s ≡ true
alike_back s t h = let a = alike_is s t h in alike_from t s (a.1, a.0, sym a.2, sym a.3)

pub alike_through : (s t u : Tip) → are_alike s t ≡ true → are_alike t u ≡ true → are_alike s u ≡ true
alike_through s t u h g = let a = alike_is s t h in let b = alike_is t u g in alike_from s u (a.0, b.1, a.2 ∙ b.2, a.3 ∙ b.3)

-- ---- linked ports

pub linked_same : (qs : List (ℕ × ℕ)) (p : ℕ) → linked qs p p ≡ true
linked_same [] p = number_same p p refl
linked_same (q ∷ qs) p = or_left (linked qs p p) _ (linked_same qs p)

abbrev pub Ways : (ℕ × ℕ) → List (ℕ × ℕ) → ℕ → ℕ → Type 0
Ways q qs p r = (linked qs p r ≡ true) ⊎ (((linked qs p q.0 ≡ true) × (linked qs q.1 r ≡ true)) ⊎ ((linked qs p q.1 ≡ true) × (linked qs q.0 r ≡ true)))

pub ways : (q : ℕ × ℕ) (qs : List (ℕ × ℕ)) (p r : ℕ) → linked (q ∷ qs) p r ≡ true → Ways q qs p r
ways q qs p r h =
    elim (or_cases (linked qs p r) _ h) [
      | inl a ↦ inl a
      | inr b ↦
          elim (or_cases (linked qs p q.0 && linked qs q.1 r) (linked qs p q.1 && linked qs q.0 r) b) [
            | inl x ↦ inr (inl (both_left _ _ x, both_right (linked qs p q.0) (linked qs q.1 r) x))
            | inr y ↦ inr (inr (both_left _ _ y, both_right (linked qs p q.1) (linked qs q.0 r) y))
          ]
    ]

pub by_way : (q : ℕ × ℕ) (qs : List (ℕ × ℕ)) (p r : ℕ) → Ways q qs p r → linked (q ∷ qs) p r ≡ true
by_way q qs p r (inl a) = or_left (linked qs p r) _ a
by_way q qs p r (inr (inl x)) = or_right (linked qs p r) _ (or_left (linked qs p q.0 && linked qs q.1 r) _ (join (linked qs p q.0) (linked qs q.1 r) x.0 x.1))
by_way q qs p r (inr (inr y)) = or_right (linked qs p r) _ (or_right (linked qs p q.0 && linked qs q.1 r) _ (join (linked qs p q.1) (linked qs q.0 r) y.0 y.1))

pub linked_back : (qs : List (ℕ × ℕ)) (p r : ℕ) → linked qs p r ≡ true → linked qs r p ≡ true
linked_back [] p r h = number_same r p (sym (same_number p r h))
linked_back (q ∷ qs) p r h =
    elim (ways q qs p r h) [
      | inl a ↦ by_way q qs r p (inl (linked_back qs p r a))
      | inr b ↦
          elim b [
            | inl x ↦ by_way q qs r p (inr (inr (linked_back qs q.1 r x.1, linked_back qs p q.0 x.0)))
            | inr y ↦ by_way q qs r p (inr (inl (linked_back qs q.0 r y.1, linked_back qs p q.1 y.0)))
          ]
    ]

pub linked_through : (qs : List (ℕ × ℕ)) (p r x : ℕ) → linked qs p r ≡ true → linked qs r x ≡ true → linked qs p x ≡ true
linked_through [] p r x h g = number_same p x (same_number p r h ∙ same_number r x g)
linked_through (q ∷ qs) p r x h g = by_way q qs p x (meet (linked_through qs) (ways q qs p r h) (ways q qs r x g))
  where
    meet : ((a b c : ℕ) → linked qs a b ≡ true → linked qs b c ≡ true → linked qs a c ≡ true) → Ways q qs p r → Ways q qs r x → Ways q qs p x
    meet t (inl a) (inl b) = inl (t p r x a b)
    meet t (inl a) (inr (inl b)) = inr (inl (t p r q.0 a b.0, b.1))
    meet t (inl a) (inr (inr b)) = inr (inr (t p r q.1 a b.0, b.1))
    meet t (inr (inl a)) (inl b) = inr (inl (a.0, t q.1 r x a.1 b))
    meet t (inr (inl a)) (inr (inl b)) = inr (inl (a.0, b.1))
    meet t (inr (inl a)) (inr (inr b)) = inl (t p q.0 x a.0 b.1)
    meet t (inr (inr a)) (inl b) = inr (inr (a.0, t q.0 r x a.1 b))
    meet t (inr (inr a)) (inr (inl b)) = inl (t p q.1 x a.0 b.1)
    meet t (inr (inr a)) (inr (inr b)) = inr (inr (a.0, b.1))

pub linked_at : (qs : List (ℕ × ℕ)) (q : ℕ × ℕ) → Member q qs → linked qs q.0 q.1 ≡ true
linked_at [] q m = absurd m
linked_at (x ∷ qs) q (inl e) =
    let first : x.0 ≡ q.0 = ap (λ (y : ℕ × ℕ). y.0) e in
    let second : x.1 ≡ q.1 = ap (λ (y : ℕ × ℕ). y.1) e in
    by_way x qs q.0 q.1
    (inr (inl (subst (λ (y : ℕ). linked qs q.0 y ≡ true) (sym first) (linked_same qs q.0), subst (λ (y : ℕ). linked qs x.1 y ≡ true) second (linked_same qs x.1))))
linked_at (x ∷ qs) q (inr m) = by_way x qs q.0 q.1 (inl (linked_at qs q m))

-- the two ports of a match, whichever an end is at
pub at_is : (q : ℕ × ℕ) (t : Tip) → is_at q t ≡ true → (t.port ≡ q.0) ⊎ (t.port ≡ q.1)
at_is q t h = elim (or_cases (t.port == q.0) (t.port == q.1) h) [ inl a ↦ inl (same_number t.port q.0 a) | inr b ↦ inr (same_number t.port q.1 b) ]

pub linked_ends : (qs : List (ℕ × ℕ)) (q : ℕ × ℕ) (s t : Tip) → Member q qs → is_at q s ≡ true → is_at q t ≡ true → linked qs s.port t.port ≡ true
linked_ends qs q s t m a b = go s.port t.port (at_is q s a) (at_is q t b)
  where
    go : (x y : ℕ) → (x ≡ q.0) ⊎ (x ≡ q.1) → (y ≡ q.0) ⊎ (y ≡ q.1) → linked qs x y ≡ true
    go x y (inl e) (inl f) = subst (λ (z : ℕ). linked qs x z ≡ true) (e ∙ sym f) (linked_same qs x)
    go x y (inl e) (inr f) = subst (λ (z : ℕ). linked qs z y ≡ true) (sym e) (subst (λ (z : ℕ). linked qs q.0 z ≡ true) (sym f) (linked_at qs q m))
    go x y (inr e) (inl f) = subst (λ (z : ℕ). linked qs z y ≡ true) (sym e) (subst (λ (z : ℕ). linked qs q.1 z ≡ true) (sym f) (linked_back qs q.0 q.1 (linked_at qs q m)))
    go x y (inr e) (inr f) = subst (λ (z : ℕ). linked qs x z ≡ true) (e ∙ sym f) (linked_same qs x)

-- ---- pairs and keys

module _ (matches : ℕ → List (ℕ × ℕ)) (ts : List Tip) where
  abbrev pub IsMatched : Tip → Type 0
  IsMatched t = (q : ℕ × ℕ) × Member q (matches t.instance) × (is_at q t ≡ true)

  -- two ends of one key, each at a port of a match
  abbrev pub OfKey : ℕ → ℕ → Type 0
  OfKey i j = (s : Tip) × (t : Tip) × (slice_get ts i ≡ Some s) × (slice_get ts j ≡ Some t) × (are_alike s t ≡ true) × (linked (matches s.instance) s.port t.port ≡ true) × IsMatched s × IsMatched t

  pub one : (k : ℕ) (s t : Tip) → slice_get ts k ≡ Some s → slice_get ts k ≡ Some t → s ≡ t
  one k s t a b = cc

  linked_along : (i j p r : ℕ) → i ≡ j → linked (matches i) p r ≡ true → linked (matches j) p r ≡ true
  linked_along i j p r e h = subst (λ (k : ℕ). linked (matches k) p r ≡ true) e h

  back : (i j : ℕ) → OfKey i j → OfKey j i
  back i j h =
      let s = h.0 in
      let t = h.1 in
      (t, s, h.3, h.2, alike_back s t h.4, linked_back (matches t.instance) s.port t.port (linked_along s.instance t.instance s.port t.port (alike_is s t h.4).2 h.5), h.7, h.6)

  through : (i j k : ℕ) → OfKey i j → OfKey j k → OfKey i k
  through i j k h g =
      let same : h.1 ≡ g.0 = one j h.1 g.0 h.3 g.2 in
      let alike : are_alike h.1 g.1 ≡ true = subst (λ (x : Tip). are_alike x g.1 ≡ true) (sym same) g.4 in
      let links : linked (matches h.1.instance) h.1.port g.1.port ≡ true = subst (λ (x : Tip). linked (matches x.instance) x.port g.1.port ≡ true) (sym same) g.5 in (
        h.0,
        g.1,
        h.2,
        g.3,
        alike_through h.0 h.1 g.1 h.4 alike,
        linked_through (matches h.0.instance) h.0.port h.1.port g.1.port h.5 (linked_along h.1.instance h.0.instance h.1.port g.1.port (sym (alike_is h.0 h.1 h.4).2) links),
        h.6,
        g.7,
      )

  -- a pair by one match
  abbrev pub IsPair : List ℕ → Type 0
  IsPair p = (t : Tip) × (q : ℕ × ℕ) × Member q (matches t.instance) × (is_at q t ≡ true) × (p ≡ paired_by matches ts t q)

  pub of_pairs_at : (t : Tip) (p : List ℕ) → Member p (pairs_at matches ts t) → IsPair p
  of_pairs_at t p m = go t.unmatched m
    where
      go : (b : Bool) → Member p (cond b [] (map (paired_by matches ts t) (matches_at matches ts t))) → IsPair p
      go true n = absurd n
      go false n =
          let a = of_map (paired_by matches ts t) (matches_at matches ts t) p n in
          let b = of_filter (λ q. is_at q t) (matches t.instance) a.0 a.1 in
          (t, a.0, b.0, b.1, sym a.2)

  pub to_pairs_at : (t : Tip) (q : ℕ × ℕ) → t.unmatched ≡ false → Member q (matches t.instance) → is_at q t ≡ true → Member (paired_by matches ts t q) (pairs_at matches ts t)
  to_pairs_at t q u m h =
      subst (λ (b : Bool). Member (paired_by matches ts t q) (cond b [] (map (paired_by matches ts t) (matches_at matches ts t)))) (sym u)
      (to_map (paired_by matches ts t) (matches_at matches ts t) q (to_filter (λ x. is_at x t) (matches t.instance) q m h))

  of_paired : (t : Tip) (q : ℕ × ℕ) (i : ℕ) → has (paired_by matches ts t q) i ≡ true → (s : Tip) × (slice_get ts i ≡ Some s) × (are_alike t s ≡ true) × (is_at q s ≡ true)
  of_paired t q i h =
      let r = of_places 0 (λ (s : Tip). are_alike t s && is_at q s) ts i h in
      let e : r.0 ≡ i = let x = r.2 in omega arith in
      (r.1, subst (λ (k : ℕ). slice_get ts k ≡ Some r.1) e r.3, both_left (are_alike t r.1) (is_at q r.1) r.4, both_right (are_alike t r.1) (is_at q r.1) r.4)

  matched_along : (t s : Tip) (q : ℕ × ℕ) → are_alike t s ≡ true → Member q (matches t.instance) → is_at q s ≡ true → IsMatched s
  matched_along t s q a m h = (q, subst (λ (k : ℕ). Member q (matches k)) (alike_is t s a).2 m, h)

  related : (p : List ℕ) → IsPair p → (i j : ℕ) → has p i ≡ true → has p j ≡ true → OfKey i j
  related p is i j a b =
      let t = is.0 in
      let q = is.1 in
      let x = of_paired t q i (ap (λ (g : List ℕ). has g i) (sym is.4) ∙ a) in
      let y = of_paired t q j (ap (λ (g : List ℕ). has g j) (sym is.4) ∙ b) in (
        x.0,
        y.0,
        x.1,
        y.1,
        alike_through x.0 t y.0 (alike_back t x.0 x.2) y.2,
        linked_ends (matches x.0.instance) q x.0 y.0 (subst (λ (k : ℕ). Member q (matches k)) (alike_is t x.0 x.2).2 is.2) x.3 y.3,
        matched_along t x.0 q x.2 is.2 x.3,
        matched_along t y.0 q y.2 is.2 y.3,
      )

  pub all_related : (g : List ℕ) → Member g (pairs matches ts) → (i j : ℕ) → has g i ≡ true → has g j ≡ true → OfKey i j
  unfolding pairs
  all_related g o =
      joined_related OfKey back through (flat_map (pairs_at matches ts) ts)
      (λ p m. let r = of_flat (pairs_at matches ts) ts p m in related p (of_pairs_at r.0 p r.2)) g o

  pub one_key : (g : List ℕ) (i j : ℕ) (s t : Tip) → Contains (pairs matches ts) g → has g i ≡ true → has g j ≡ true → slice_get ts i ≡ Some s → slice_get ts j ≡ Some t → is_of_key matches s t ≡ true
  one_key g i j s t o a b at there =
      let r = all_related g (of_contains (pairs matches ts) g o.0 o.1 o.2) i j a b in
      subst (λ (x : Tip). is_of_key matches x t ≡ true) (one i r.0 s r.2 at)
      (subst (λ (x : Tip). is_of_key matches r.0 x ≡ true) (one j r.1 t r.3 there) (join (are_alike r.0 r.1) (linked (matches r.0.instance) r.0.port r.1.port) r.4 r.5))

  -- ---- a whole pair

  module _ (g : List ℕ) (o : Member g (pairs matches ts)) (whole : is_whole matches ts g ≡ true) where
    one_by : (k : ℕ) (t : Tip) (q : ℕ × ℕ) → has g k ≡ true → slice_get ts k ≡ Some t → Member q (matches t.instance) → is_at q t ≡ true
        → (alike_at matches ts t q.0 ≡ 1) × (alike_at matches ts t q.1 ≡ 1)
    unfolding is_whole
    one_by k t q h at m b =
        let here = all_of (λ (x : ℕ). some_and (λ (u : Tip). list_all (is_whole_by matches ts u) (matches_at matches ts u)) (slice_get ts x)) g k whole h in
        let all : list_all (is_whole_by matches ts t) (matches_at matches ts t) ≡ true =
        ap (λ (x : Option Tip). some_and (λ (u : Tip). list_all (is_whole_by matches ts u) (matches_at matches ts u)) x) (sym at) ∙ here in
        let w = all_member (is_whole_by matches ts t) (matches_at matches ts t) q all (to_filter (λ x. is_at x t) (matches t.instance) q m b) in (
          same_number _ _ (both_left (alike_at matches ts t q.0 == 1) (alike_at matches ts t q.1 == 1) w),
          same_number _ _ (both_right (alike_at matches ts t q.0 == 1) (alike_at matches ts t q.1 == 1) w),
        )

    abbrev pub Reached : Tip → ℕ → Type 0
    Reached s r = (j : ℕ) × (t : Tip) × (has g j ≡ true) × (slice_get ts j ≡ Some t) × (are_alike s t ≡ true) × (t.port ≡ r)

    -- the partner by a match
    partner : (k : ℕ) (t : Tip) (q : ℕ × ℕ) (r : ℕ) → has g k ≡ true → slice_get ts k ≡ Some t → Member q (matches t.instance) → is_at q t ≡ true → (r ≡ q.0) ⊎ (r ≡ q.1)
        → alike_at matches ts t r ≡ 1 → Reached t r
    unfolding pairs
    partner k t q r h at m b is count =
        let x = one_exists (λ (s : Tip). are_alike t s && s.port == r) ts count in
        let alike : are_alike t x.1 ≡ true = both_left (are_alike t x.1) (x.1.port == r) x.3 in
        let port : x.1.port ≡ r = same_number x.1.port r (both_right (are_alike t x.1) (x.1.port == r) x.3) in
        let there : is_at q x.1 ≡ true = ends q x.1 r port is in
        let unmatched : t.unmatched ≡ false = (alike_is t x.1 alike).0 in
        let itself : are_alike t t ≡ true = alike_through t x.1 t alike (alike_back t x.1 alike) in
        let is_here : has (paired_by matches ts t q) k ≡ true = to_places 0 k (λ (s : Tip). are_alike t s && is_at q s) ts k t (omega arith) at (join (are_alike t t) (is_at q t) itself b) in
        let is_there : has (paired_by matches ts t q) x.0 ≡ true =
        to_places 0 x.0 (λ (s : Tip). are_alike t s && is_at q s) ts x.0 x.1 (omega arith) x.2 (join (are_alike t x.1) (is_at q x.1) alike there) in
        let pair : Member (paired_by matches ts t q) (flat_map (pairs_at matches ts) ts) = to_flat (pairs_at matches ts) ts k t (paired_by matches ts t q) at (to_pairs_at t q unmatched m b) in
        (x.0, x.1, closed (flat_map (pairs_at matches ts) ts) (paired_by matches ts t q) pair g o k is_here h x.0 is_there, x.2, alike, port)
      where
        ends : (q : ℕ × ℕ) (u : Tip) (r : ℕ) → u.port ≡ r → (r ≡ q.0) ⊎ (r ≡ q.1) → is_at q u ≡ true
        ends q u r e (inl f) = or_left (u.port == q.0) (u.port == q.1) (number_same u.port q.0 (e ∙ f))
        ends q u r e (inr f) = or_right (u.port == q.0) (u.port == q.1) (number_same u.port q.1 (e ∙ f))

    onward : (s t : Tip) (r : ℕ) → are_alike s t ≡ true → Reached t r → Reached s r
    onward s t r a x = (x.0, x.1, x.2, x.3, alike_through s t x.1 a x.4, x.5)

    abbrev Goes : List (ℕ × ℕ) → Type 0
    Goes qs = (k : ℕ) (t : Tip) → ((x : ℕ × ℕ) → Member x qs → Member x (matches t.instance)) → has g k ≡ true → slice_get ts k ≡ Some t → (y : ℕ) → linked qs t.port y ≡ true → Reached t y

    -- along matches, each port is reached
    pub reach : (qs : List (ℕ × ℕ)) (i : ℕ) (s : Tip) → ((q : ℕ × ℕ) → Member q qs → Member q (matches s.instance)) → has g i ≡ true → slice_get ts i ≡ Some s → (r : ℕ) → linked qs s.port r ≡ true → Reached s r
    reach [] i s sub h at r l =
        let self = all_related g o i i h h in
        let alike : are_alike s s ≡ true =
        subst (λ (x : Tip). are_alike x s ≡ true) (one i self.0 s self.2 at) (subst (λ (x : Tip). are_alike self.0 x ≡ true) (one i self.1 s self.3 at) self.4) in
        (i, s, h, at, alike, same_number s.port r l)
    reach (q ∷ qs) i s sub h at r l = go (reach qs) (ways q qs s.port r l)
      where
        over : Goes qs → (a b : ℕ) → (a ≡ q.0) ⊎ (a ≡ q.1) → (b ≡ q.0) ⊎ (b ≡ q.1) → linked qs s.port a ≡ true → linked qs b r ≡ true → Reached s r
        over rest a b p v x y =
            let first = rest i s (λ z m. sub z (inr m)) h at a x in
            let t = first.1 in
            let inst : s.instance ≡ t.instance = (alike_is s t first.4).2 in
            let here : Member q (matches t.instance) = subst (λ (k : ℕ). Member q (matches k)) inst (sub q (inl refl)) in
            let is : is_at q t ≡ true = ends q t a first.5 p in
            let counts = one_by first.0 t q first.2 first.3 here is in
            let second = partner first.0 t q b first.2 first.3 here is v (count q t b v counts) in
            let u = second.1 in
            let inst_too : t.instance ≡ u.instance = (alike_is t u second.4).2 in
            let third =
            rest second.0 u (λ z m. subst (λ (k : ℕ). Member z (matches k)) (inst ∙ inst_too) (sub z (inr m))) second.2 second.3 r
            (subst (λ (k : ℕ). linked qs k r ≡ true) (sym second.5) y) in
            onward s t r first.4 (onward t u r second.4 third)
          where
            ends : (q : ℕ × ℕ) (u : Tip) (r : ℕ) → u.port ≡ r → (r ≡ q.0) ⊎ (r ≡ q.1) → is_at q u ≡ true
            ends q u r e (inl f) = or_left (u.port == q.0) (u.port == q.1) (number_same u.port q.0 (e ∙ f))
            ends q u r e (inr f) = or_right (u.port == q.0) (u.port == q.1) (number_same u.port q.1 (e ∙ f))

            count : (q : ℕ × ℕ) (t : Tip) (b : ℕ) → (b ≡ q.0) ⊎ (b ≡ q.1) → (alike_at matches ts t q.0 ≡ 1) × (alike_at matches ts t q.1 ≡ 1) → alike_at matches ts t b ≡ 1
            count q t b (inl e) c = subst (λ (k : ℕ). alike_at matches ts t k ≡ 1) (sym e) c.0
            count q t b (inr e) c = subst (λ (k : ℕ). alike_at matches ts t k ≡ 1) (sym e) c.1

        go : Goes qs → Ways q qs s.port r → Reached s r
        go rest (inl a) = rest i s (λ z m. sub z (inr m)) h at r a
        go rest (inr (inl x)) = over rest q.0 q.1 (inl refl) (inr refl) x.0 x.1
        go rest (inr (inr y)) = over rest q.1 q.0 (inr refl) (inl refl) y.0 y.1

    -- an end is at one of the pair's ports where it is of the instance and a port that matches lead to
    some_at : (h : List ℕ) (k : ℕ) (t u : Tip) → has h k ≡ true → slice_get ts k ≡ Some u → at_one_port t u ≡ true → list_any (λ x. some_and (at_one_port t) (slice_get ts x)) h ≡ true
    some_at [] k t u e at p = cc
    some_at (n ∷ h) k t u e at p =
        elim (or_cases (n == k) (has h k) e) [
          | inl a ↦
              let same : n ≡ k = same_number n k a in
              or_left (some_and (at_one_port t) (slice_get ts n)) (list_any (λ x. some_and (at_one_port t) (slice_get ts x)) h)
              (ap (λ (x : ℕ). some_and (at_one_port t) (slice_get ts x)) same ∙ ap (λ (x : Option Tip). some_and (at_one_port t) x) at ∙ p)
          | inr b ↦ or_right (some_and (at_one_port t) (slice_get ts n)) (list_any (λ x. some_and (at_one_port t) (slice_get ts x)) h) (some_at h k t u b at p)
        ]

    at_some : (h : List ℕ) (t : Tip) → list_any (λ x. some_and (at_one_port t) (slice_get ts x)) h ≡ true → (k : ℕ) × (u : Tip) × (has h k ≡ true) × (slice_get ts k ≡ Some u) × (at_one_port t u ≡ true)
    at_some [] t e = cc
    at_some (n ∷ h) t e = part (or_cases (some_and (at_one_port t) (slice_get ts n)) (list_any (λ x. some_and (at_one_port t) (slice_get ts x)) h) e) (at_some h t) (slice_get ts n) refl
      where
        part : (some_and (at_one_port t) (slice_get ts n) ≡ true) ⊎ (list_any (λ x. some_and (at_one_port t) (slice_get ts x)) h ≡ true)
            → (list_any (λ x. some_and (at_one_port t) (slice_get ts x)) h ≡ true → (k : ℕ) × (u : Tip) × (has h k ≡ true) × (slice_get ts k ≡ Some u) × (at_one_port t u ≡ true))
            → (x : Option Tip) → slice_get ts n ≡ x → (k : ℕ) × (u : Tip) × (has (n ∷ h) k ≡ true) × (slice_get ts k ≡ Some u) × (at_one_port t u ≡ true)
        part (inl a) rest (Some u) is = (n, u, or_left (n == n) (has h n) (number_same n n refl), is, ap (λ (x : Option Tip). some_and (at_one_port t) x) (sym is) ∙ a)
        part (inl a) rest None is = cc (ap (λ (x : Option Tip). some_and (at_one_port t) x) (sym is) ∙ a)
        part (inr b) rest x is = let r = rest b in (r.0, r.1, or_right (n == r.0) (has h r.0) r.2, r.3, r.4)

    to_port : (i : ℕ) (s t : Tip) → has g i ≡ true → slice_get ts i ≡ Some s → s.instance ≡ t.instance → linked (matches s.instance) s.port t.port ≡ true → is_at_port_of ts g t ≡ true
    to_port i s t h at inst links =
        let r = reach (matches s.instance) i s (λ q m. m) h at t.port links in
        some_at g r.0 t r.1 r.2 r.3 (join (t.instance == r.1.instance) (t.port == r.1.port) (number_same t.instance r.1.instance (sym inst ∙ (alike_is s r.1 r.4).2)) (number_same t.port r.1.port (sym r.5)))

    from_port : (i : ℕ) (s t : Tip) → has g i ≡ true → slice_get ts i ≡ Some s → is_at_port_of ts g t ≡ true → (s.instance ≡ t.instance) × (linked (matches s.instance) s.port t.port ≡ true)
    from_port i s t h at is =
        let r = at_some g t is in
        let u = r.1 in
        let rel = all_related g o i r.0 h r.2 in
        let is_s : rel.0 ≡ s = one i rel.0 s rel.2 at in
        let is_u : rel.1 ≡ u = one r.0 rel.1 u rel.3 r.3 in
        let alike : are_alike s u ≡ true = subst (λ (x : Tip). are_alike s x ≡ true) is_u (subst (λ (x : Tip). are_alike x rel.1 ≡ true) is_s rel.4) in
        let links : linked (matches s.instance) s.port u.port ≡ true =
        subst (λ (x : Tip). linked (matches s.instance) s.port x.port ≡ true) is_u (subst (λ (x : Tip). linked (matches x.instance) x.port rel.1.port ≡ true) is_s rel.5) in
        let inst : t.instance ≡ u.instance = same_number t.instance u.instance (both_left (t.instance == u.instance) (t.port == u.port) r.4) in
        let port : t.port ≡ u.port = same_number t.port u.port (both_right (t.instance == u.instance) (t.port == u.port) r.4) in
        ((alike_is s u alike).2 ∙ sym inst, subst (λ (x : ℕ). linked (matches s.instance) s.port x ≡ true) (sym port) links)

    pub all_of_key : (i j : ℕ) (s t : Tip) → has g i ≡ true → slice_get ts i ≡ Some s → slice_get ts j ≡ Some t → are_alike s t ≡ true → linked (matches s.instance) s.port t.port ≡ true → has g j ≡ true
    all_of_key i j s t h at there alike links =
        let r = reach (matches s.instance) i s (λ q m. m) h at t.port links in
        let u = r.1 in
        let self = all_related g o r.0 r.0 r.2 r.2 in
        let matched : IsMatched u = subst (λ (x : Tip). IsMatched x) (one r.0 self.0 u self.2 r.3) self.6 in
        let counts = one_by r.0 u matched.0 r.2 r.3 matched.1 matched.2 in
        let count : alike_at matches ts u u.port ≡ 1 = at_port u matched.0 (at_is matched.0 u matched.2) counts in
        let itself : are_alike u u ≡ true = alike_through u s u (alike_back s u r.4) r.4 in
        let other : are_alike u t ≡ true = alike_through u s t (alike_back s u r.4) alike in
        let same : r.0 ≡ j =
        one_only (λ (x : Tip). are_alike u x && x.port == u.port) ts r.0 j u t count r.3 (join (are_alike u u) (u.port == u.port) itself (number_same u.port u.port refl)) there
        (join (are_alike u t) (t.port == u.port) other (number_same t.port u.port (sym r.5))) in
        subst (λ (k : ℕ). has g k ≡ true) same r.2
      where
        at_port : (u : Tip) (q : ℕ × ℕ) → (u.port ≡ q.0) ⊎ (u.port ≡ q.1) → (alike_at matches ts u q.0 ≡ 1) × (alike_at matches ts u q.1 ≡ 1) → alike_at matches ts u u.port ≡ 1
        at_port u q (inl e) c = subst (λ (k : ℕ). alike_at matches ts u k ≡ 1) (sym e) c.0
        at_port u q (inr e) c = subst (λ (k : ℕ). alike_at matches ts u k ≡ 1) (sym e) c.1

  pub ports_to : (g : List ℕ) (i : ℕ) (s t : Tip) → Contains (pairs matches ts) g → is_whole matches ts g ≡ true → has g i ≡ true → slice_get ts i ≡ Some s
      → (is_at_port_of ts g t ≡ true) ↔ ((s.instance ≡ t.instance) × (linked (matches s.instance) s.port t.port ≡ true))
  ports_to g i s t o w h at =
      let m = of_contains (pairs matches ts) g o.0 o.1 o.2 in
      (from_port g m w i s t h at, λ r. to_port g m w i s t h at r.0 r.1)

  -- ---- a pair is whole where its key's ends are

  from_has : (test : ℕ → Bool) (h : List ℕ) → ((k : ℕ) → has h k ≡ true → test k ≡ true) → list_all test h ≡ true
  from_has test [] each = refl
  from_has test (n ∷ h) each =
      join (test n) (list_all test h) (each n (or_left (n == n) (has h n) (number_same n n refl))) (from_has test h (λ k e. each k (or_right (n == k) (has h k) e)))

  from_members : (test : ℕ × ℕ → Bool) (qs : List (ℕ × ℕ)) → ((q : ℕ × ℕ) → Member q qs → test q ≡ true) → list_all test qs ≡ true
  from_members test [] each = refl
  from_members test (q ∷ qs) each = join (test q) (list_all test qs) (each q (inl refl)) (from_members test qs (λ x m. each x (inr m)))

  pub to_contains : (qs : List (ℕ × ℕ)) (q : ℕ × ℕ) → Member q qs → Contains qs q
  to_contains [] q m = absurd m
  to_contains (x ∷ qs) q (inl e) = (0, omega arith, e)
  to_contains (x ∷ qs) q (inr m) = let r = to_contains qs q m in (suc r.0, omega (arith, r.1), r.2)

  pub from_class : (g : List ℕ) (i : ℕ) (s : Tip) → Member g (pairs matches ts) → has g i ≡ true → slice_get ts i ≡ Some s → IsWholeClass matches ts s → is_whole matches ts g ≡ true
  unfolding is_whole
  from_class g i s o h at class =
      from_has (λ k. some_and (λ (t : Tip). list_all (is_whole_by matches ts t) (matches_at matches ts t)) (slice_get ts k)) g
      (λ k e.
      let r = all_related g o i k h e in
      let t = r.1 in
      let key : is_of_key matches s t ≡ true =
      subst (λ (x : Tip). is_of_key matches x t ≡ true) (one i r.0 s r.2 at) (join (are_alike r.0 t) (linked (matches r.0.instance) r.0.port t.port) r.4 r.5) in
      ap (λ (x : Option Tip). some_and (λ (u : Tip). list_all (is_whole_by matches ts u) (matches_at matches ts u)) x) r.3
      ∙ from_members (is_whole_by matches ts t) (matches_at matches ts t)
      (λ q m. let f = of_filter (λ x. is_at x t) (matches t.instance) q m in class k t q r.3 key (to_contains (matches t.instance) q f.0) f.1))

  pub to_class : (g : List ℕ) (i : ℕ) (s : Tip) → Member g (pairs matches ts) → has g i ≡ true → slice_get ts i ≡ Some s → is_whole matches ts g ≡ true → IsWholeClass matches ts s
  to_class g i s o h at whole j t q there key m b =
      let here = all_of_key g o whole i j s t h at there (both_left (are_alike s t) (linked (matches s.instance) s.port t.port) key) (both_right (are_alike s t) (linked (matches s.instance) s.port t.port) key) in
      let counts = one_by g o whole j t q here there (of_contains (matches t.instance) q m.0 m.1 m.2) b in
      join (alike_at matches ts t q.0 == 1) (alike_at matches ts t q.1 == 1) (number_same _ 1 counts.0) (number_same _ 1 counts.1)

  pub class_whole : (g : List ℕ) (i : ℕ) (s : Tip) → Contains (pairs matches ts) g → has g i ≡ true → slice_get ts i ≡ Some s → (is_whole matches ts g ≡ true) ↔ IsWholeClass matches ts s
  class_whole g i s o h at =
      let m = of_contains (pairs matches ts) g o.0 o.1 o.2 in
      (to_class g i s m h at, from_class g i s m h at)
