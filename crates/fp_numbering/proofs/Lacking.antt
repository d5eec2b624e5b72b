-- A pair that isn't whole has an end that lacks a partner or repeats one, and a whole pair has none.
use Rattle.std.proofs.Common.{◌≡◌, ◌∙◌, ap, refl, sym, subst, ℕ, zero, suc, ◌<◌, ◌⊎◌, inl, inr, Bool, true, false, ◌&&◌, cond, List, [], ◌∷◌, length, take, Option, None, Some, slice_get, arith}
use Rattle.std.specs.Prelude.{filter, ◌==◌}
use Rattle.std.specs.List.{list_any, list_all, Contains}
use Rattle.fp_base.specs.declared.refusal.Refusal.{Refusal}
use Rattle.fp_base.specs.declared.rule.Rule.TheVariants.{MatchPairMissing, MatchPairRepeated}
use Rattle.fp_base.specs.Least.{broken_at}
use Rattle.fp_tables.specs.Lists.{some_and}
use Rattle.fp_base.proofs.Bools.{join, or_cases, or_left, or_right}
use Rattle.fp_base.proofs.Numbers.{same_number, number_same}
use Rattle.fp_numbering.specs.declared.tips.Tip.{Tip}
use Rattle.fp_numbering.specs.Pairs.{has, are_alike, is_at, matches_at, pairs, alike_at, is_whole_by, is_whole}
use Rattle.fp_numbering.specs.Broken.{IsMissing, IsRepeated}
use Rattle.fp_numbering.specs.Keys.{linked, is_of_key}
use Rattle.fp_numbering.specs.Partners.{is_seen, is_alone, is_one_more}
use Rattle.fp_numbering.specs.Looks.{is_lone}
use Rattle.fp_numbering.proofs.Unique.{both_left, both_right}
use Rattle.fp_numbering.proofs.Joining.{Member, of_filter}
use Rattle.fp_numbering.proofs.Keying.{alike_is, alike_back, alike_through, at_is, linked_ends, of_contains, all_related, class_whole, one, one_only}
use Rattle.fp_numbering.proofs.Partnering.{missing_least, repeated_least}
use Rattle.fp_numbering.proofs.Sourcing.{member_contains}

-- ---- lists

some_fails : (test : ℕ → Bool) (g : List ℕ) → list_all test g ≡ false → (k : ℕ) × (has g k ≡ true) × (test k ≡ false)
some_fails test [] h = cc
some_fails test (n ∷ g) h = part (test n) refl h (some_fails test g)
  where
    part : (b : Bool) → test n ≡ b → (b && list_all test g) ≡ false → (list_all test g ≡ false → (k : ℕ) × (has g k ≡ true) × (test k ≡ false)) → (k : ℕ) × (has (n ∷ g) k ≡ true) × (test k ≡ false)
    part true e f rest = let r = rest f in (r.0, or_right (n == r.0) (has g r.0) r.1, r.2)
    part false e f rest = (n, or_left (n == n) (has g n) (number_same n n refl), e)

match_fails : (test : ℕ × ℕ → Bool) (qs : List (ℕ × ℕ)) → list_all test qs ≡ false → (q : ℕ × ℕ) × Member q qs × (test q ≡ false)
match_fails test [] h = cc
match_fails test (x ∷ qs) h = part (test x) refl h (match_fails test qs)
  where
    part : (b : Bool) → test x ≡ b → (b && list_all test qs) ≡ false → (list_all test qs ≡ false → (q : ℕ × ℕ) × Member q qs × (test q ≡ false)) → (q : ℕ × ℕ) × Member q (x ∷ qs) × (test q ≡ false)
    part true e f rest = let r = rest f in (r.0, inr r.1, r.2)
    part false e f rest = (x, inl refl, e)

one_passes : {A : Type 0} (test : A → Bool) (xs : List A) → 0 < length (filter test xs) → (j : ℕ) × (x : A) × (slice_get xs j ≡ Some x) × (test x ≡ true)
one_passes test [] h = absurd (omega arith)
one_passes {A = A} test (y ∷ xs) h = part (test y) refl h (one_passes test xs)
  where
    part : (b : Bool) → test y ≡ b → 0 < length (cond b (y ∷ filter test xs) (filter test xs)) → (0 < length (filter test xs) → (j : ℕ) × (x : A) × (slice_get xs j ≡ Some x) × (test x ≡ true))
        → (j : ℕ) × (x : A) × (slice_get (y ∷ xs) j ≡ Some x) × (test x ≡ true)
    part true e l rest = (0, y, refl, e)
    part false e l rest = let r = rest l in (suc r.0, r.1, r.2, r.3)

two_pass : {A : Type 0} (test : A → Bool) (xs : List A) → 1 < length (filter test xs)
    → (i : ℕ) × (j : ℕ) × (x : A) × (y : A) × (i < j) × (slice_get xs i ≡ Some x) × (slice_get xs j ≡ Some y) × (test x ≡ true) × (test y ≡ true)
two_pass test [] h = absurd (omega arith)
two_pass {A = A} test (z ∷ xs) h = part (test z) refl h (two_pass test xs)
  where
    part : (b : Bool) → test z ≡ b → 1 < length (cond b (z ∷ filter test xs) (filter test xs))
        → (1 < length (filter test xs) → (i : ℕ) × (j : ℕ) × (x : A) × (y : A) × (i < j) × (slice_get xs i ≡ Some x) × (slice_get xs j ≡ Some y) × (test x ≡ true) × (test y ≡ true))
        → (i : ℕ) × (j : ℕ) × (x : A) × (y : A) × (i < j) × (slice_get (z ∷ xs) i ≡ Some x) × (slice_get (z ∷ xs) j ≡ Some y) × (test x ≡ true) × (test y ≡ true)
    part true e l rest = let r = one_passes test xs (omega arith) in (0, suc r.0, z, r.1, omega arith, refl, r.2, e, r.3)
    part false e l rest = let r = rest l in let less = r.4 in (suc r.0, suc r.1, r.2, r.3, omega arith, r.5, r.6, r.7, r.8)

none_one_more : (n : ℕ) → (n == 1) ≡ false → (n ≡ 0) ⊎ (1 < n)
none_one_more zero e = inl refl
none_one_more (suc zero) e = cc
none_one_more (suc (suc n)) e = inr (omega arith)

and_fails : (a b : Bool) → (a && b) ≡ false → (a ≡ false) ⊎ (b ≡ false)
and_fails true b e = inr e
and_fails false b e = inl refl

module _ (matches : ℕ → List (ℕ × ℕ)) (ts : List Tip) where
  abbrev pub Lacks : ℕ → Tip → Refusal → Type 0
  Lacks k t f = IsMissing matches ts k t f ⊎ IsRepeated matches ts k t f

  -- an end of the key of another that lacks a partner or repeats one
  abbrev pub LacksOne : Tip → Type 0
  LacksOne t = (j : ℕ) × (s : Tip) × (f : Refusal) × (slice_get ts j ≡ Some s) × (is_of_key matches t s ≡ true) × Lacks j s f

  lacking : (k : ℕ) (t : Tip) (q : ℕ × ℕ) (p : ℕ) → slice_get ts k ≡ Some t → are_alike t t ≡ true → Member q (matches t.instance) → is_at q t ≡ true → (p ≡ q.0) ⊎ (p ≡ q.1) → (alike_at matches ts t p == 1) ≡ false
      → LacksOne t
  lacking k t q p at self m here side e = go (none_one_more (alike_at matches ts t p) e)
    where
      there : (u : Tip) → u.port ≡ p → is_at q u ≡ true
      there u h = by side
        where
          by : (p ≡ q.0) ⊎ (p ≡ q.1) → is_at q u ≡ true
          by (inl s) = or_left (u.port == q.0) (u.port == q.1) (number_same u.port q.0 (h ∙ s))
          by (inr s) = or_right (u.port == q.0) (u.port == q.1) (number_same u.port q.1 (h ∙ s))

      none : alike_at matches ts t p ≡ 0 → (alike_at matches ts t q.0 ≡ 0) ⊎ (alike_at matches ts t q.1 ≡ 0)
      none z = by side
        where
          by : (p ≡ q.0) ⊎ (p ≡ q.1) → (alike_at matches ts t q.0 ≡ 0) ⊎ (alike_at matches ts t q.1 ≡ 0)
          by (inl s) = inl (subst (λ (x : ℕ). alike_at matches ts t x ≡ 0) s z)
          by (inr s) = inr (subst (λ (x : ℕ). alike_at matches ts t x ≡ 0) s z)

      key : (u : Tip) → are_alike t u ≡ true → is_at q u ≡ true → is_of_key matches t u ≡ true
      key u a h = join (are_alike t u) (linked (matches t.instance) t.port u.port) a (linked_ends (matches t.instance) q t u m here h)

      go : (alike_at matches ts t p ≡ 0) ⊎ (1 < alike_at matches ts t p) → LacksOne t
      go (inl z) =
          (k, t, broken_at MatchPairMissing t.at, at, key t self here, inl (q, member_contains (matches t.instance) q m, here, (alike_is t t self).0, none z, refl))
      go (inr l) =
          let r = two_pass (λ (u : Tip). are_alike t u && u.port == p) ts l in
          let x = r.2 in
          let y = r.3 in
          let ax : are_alike t x ≡ true = both_left (are_alike t x) (x.port == p) r.7 in
          let ay : are_alike t y ≡ true = both_left (are_alike t y) (y.port == p) r.8 in
          let px : x.port ≡ p = same_number x.port p (both_right (are_alike t x) (x.port == p) r.7) in
          let py : y.port ≡ p = same_number y.port p (both_right (are_alike t y) (y.port == p) r.8) in
          let inside : Member q (matches y.instance) = subst (λ (i : ℕ). Member q (matches i)) (alike_is t y ay).2 m in (
            r.1,
            y,
            broken_at MatchPairRepeated y.at,
            r.6,
            key y ay (there y py),
            inr (q, r.0, x, member_contains (matches y.instance) q inside, there y py, r.4, r.5, alike_through x t y (alike_back t x ax) ay, px ∙ sym py, refl),
          )

  pub not_whole : (g : List ℕ) → Member g (pairs matches ts) → is_whole matches ts g ≡ false → (k : ℕ) × (t : Tip) × (has g k ≡ true) × (slice_get ts k ≡ Some t) × LacksOne t
  unfolding is_whole
  not_whole g o e =
      let a = some_fails (λ (x : ℕ). some_and (λ (u : Tip). list_all (is_whole_by matches ts u) (matches_at matches ts u)) (slice_get ts x)) g e in
      let k = a.0 in
      let r = all_related matches ts g o k k a.1 a.1 in
      let t = r.0 in
      let self : are_alike t t ≡ true = subst (λ (x : Tip). are_alike t x ≡ true) (one matches ts k r.1 t r.3 r.2) r.4 in
      let fails : list_all (is_whole_by matches ts t) (matches_at matches ts t) ≡ false =
      ap (λ (x : Option Tip). some_and (λ (u : Tip). list_all (is_whole_by matches ts u) (matches_at matches ts u)) x) (sym r.2) ∙ a.2 in
      let b = match_fails (is_whole_by matches ts t) (matches_at matches ts t) fails in
      let q = b.0 in
      let c = of_filter (λ x. is_at x t) (matches t.instance) q b.1 in
      (k, t, a.1, r.2, by k t q r.2 self c.0 c.1 (and_fails (alike_at matches ts t q.0 == 1) (alike_at matches ts t q.1 == 1) b.2))
    where
      by : (k : ℕ) (t : Tip) (q : ℕ × ℕ) → slice_get ts k ≡ Some t → are_alike t t ≡ true → Member q (matches t.instance) → is_at q t ≡ true
          → ((alike_at matches ts t q.0 == 1) ≡ false) ⊎ ((alike_at matches ts t q.1 == 1) ≡ false) → LacksOne t
      by k t q at self m here (inl x) = lacking k t q q.0 at self m here (inl refl) x
      by k t q at self m here (inr x) = lacking k t q q.1 at self m here (inr refl) x

  -- an end of a whole pair lacks nothing
  pub whole_lacks : (g : List ℕ) (k : ℕ) (t : Tip) (f : Refusal) → Member g (pairs matches ts) → is_whole matches ts g ≡ true → has g k ≡ true → slice_get ts k ≡ Some t → Lacks k t f → ⊥
  whole_lacks g k t f o w h at l = go l
    where
      self : are_alike t t ≡ true
      self =
          let r = all_related matches ts g o k k h h in
          let a : are_alike r.0 t ≡ true = subst (λ (x : Tip). are_alike r.0 x ≡ true) (one matches ts k r.1 t r.3 at) r.4 in
          subst (λ (x : Tip). are_alike x t ≡ true) (one matches ts k r.0 t r.2 at) a

      counts : (q : ℕ × ℕ) → Contains (matches t.instance) q → is_at q t ≡ true → (alike_at matches ts t q.0 ≡ 1) × (alike_at matches ts t q.1 ≡ 1)
      counts q c b =
          let links = linked_ends (matches t.instance) q t t (of_contains (matches t.instance) q c.0 c.1 c.2) b b in
          let x = (class_whole matches ts g k t (member_contains (pairs matches ts) g o) h at).0 w k t q at (join (are_alike t t) (linked (matches t.instance) t.port t.port) self links) c b in
          (same_number _ 1 (both_left (alike_at matches ts t q.0 == 1) (alike_at matches ts t q.1 == 1) x), same_number _ 1 (both_right (alike_at matches ts t q.0 == 1) (alike_at matches ts t q.1 == 1) x))

      at_port : (q : ℕ × ℕ) → (t.port ≡ q.0) ⊎ (t.port ≡ q.1) → (alike_at matches ts t q.0 ≡ 1) × (alike_at matches ts t q.1 ≡ 1) → alike_at matches ts t t.port ≡ 1
      at_port q (inl e) c = subst (λ (x : ℕ). alike_at matches ts t x ≡ 1) (sym e) c.0
      at_port q (inr e) c = subst (λ (x : ℕ). alike_at matches ts t x ≡ 1) (sym e) c.1

      zero_one : (n : ℕ) → n ≡ 0 → n ≡ 1 → ⊥
      zero_one n a b = omega arith

      go : Lacks k t f → ⊥
      go (inl x) =
          let c = counts x.0 x.1 x.2 in
          elim x.4 [ inl z ↦ zero_one _ z c.0 | inr z ↦ zero_one _ z c.1 ]
      go (inr x) =
          let q = x.0 in
          let count = at_port q (at_is q t x.4) (counts q x.3 x.4) in
          let s = x.2 in
          let same : x.1 ≡ k =
          one_only (λ (u : Tip). are_alike t u && u.port == t.port) ts x.1 k s t count x.6 (join (are_alike t s) (s.port == t.port) (alike_back s t x.7) (number_same s.port t.port x.8)) at
          (join (are_alike t t) (t.port == t.port) self (number_same t.port t.port refl)) in
          let less = x.5 in
          omega arith

  -- ---- the test

  pub lone_lacks : (k : ℕ) (t : Tip) → is_lone matches ts k t ≡ true → (f : Refusal) × Lacks k t f
  lone_lacks k t e =
      let alone = is_alone (λ q. list_any (is_seen q) ts) (matches t.instance) t in
      let more = is_one_more (λ q. list_any (is_seen q) (take k ts)) (matches t.instance) t in
      elim (or_cases alone more e) [
        | inl a ↦ (
          broken_at MatchPairMissing t.at,
          inl ((missing_least matches ts k t (λ q. list_any (is_seen q) ts) true (Some (broken_at MatchPairMissing t.at)) (λ q. refl) (sym a) refl).holds (broken_at MatchPairMissing t.at) refl),
        )
        | inr b ↦ (
          broken_at MatchPairRepeated t.at,
          inr ((repeated_least matches ts k t (λ q. list_any (is_seen q) (take k ts)) true (Some (broken_at MatchPairRepeated t.at)) (λ q. refl) (sym b) refl).holds (broken_at MatchPairRepeated t.at) refl),
        )
      ]

  abbrev alone : Tip → Bool
  alone t = is_alone (λ q. list_any (is_seen q) ts) (matches t.instance) t

  abbrev more : ℕ → Tip → Bool
  more k t = is_one_more (λ q. list_any (is_seen q) (take k ts)) (matches t.instance) t

  missing_alone : (k : ℕ) (t : Tip) (f : Refusal) → IsMissing matches ts k t f → (b : Bool) → alone t ≡ b → alone t ≡ true
  missing_alone k t f x true e = e
  missing_alone k t f x false e = absurd ((missing_least matches ts k t (λ q. list_any (is_seen q) ts) false None (λ q. refl) (sym e) refl).least f x)

  repeated_more : (k : ℕ) (t : Tip) (f : Refusal) → IsRepeated matches ts k t f → (b : Bool) → more k t ≡ b → more k t ≡ true
  repeated_more k t f x true e = e
  repeated_more k t f x false e = absurd ((repeated_least matches ts k t (λ q. list_any (is_seen q) (take k ts)) false None (λ q. refl) (sym e) refl).least f x)

  pub lacks_lone : (k : ℕ) (t : Tip) (f : Refusal) → Lacks k t f → is_lone matches ts k t ≡ true
  lacks_lone k t f (inl x) = or_left (alone t) (more k t) (missing_alone k t f x (alone t) refl)
  lacks_lone k t f (inr x) = or_right (alone t) (more k t) (repeated_more k t f x (more k t) refl)
