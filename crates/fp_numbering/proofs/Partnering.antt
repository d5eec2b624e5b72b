-- Whether partners are missing or repeated.
use Rattle.std.proofs.Common.{◌≡◌, ◌∙◌, ap, refl, sym, ℕ, zero, suc, ◌<◌, inl, inr, Bool, true, false, not, ◌&&◌, ◌||◌, cond, List, [], ◌∷◌, length, take, Option, None, Some, get_or, arith}
use Rattle.std.specs.Prelude.{filter, ◌==◌}
use Rattle.std.specs.List.{list_any, Contains}
use Rattle.std.proofs.lemmas.Bool.Decides.{nat_tests}
use Rattle.std.proofs.lemmas.Bool.{not_from_false}
use Rattle.fp_base.specs.declared.refusal.Refusal.{Refusal}
use Rattle.fp_base.specs.declared.rule.Rule.TheVariants.{MatchPairMissing, MatchPairRepeated}
use Rattle.fp_base.specs.Least.{IsLeast, broken_at}
use Rattle.fp_base.proofs.Calculus.{least_if, least_along, least_same}
use Rattle.fp_base.proofs.Bools.{join, not_true, or_cases, or_left, or_right}
use Rattle.fp_base.proofs.Passing.{any_before, found_before}
use Rattle.fp_numbering.specs.declared.tips.Tip.{Tip}
use Rattle.fp_numbering.specs.Pairs.{is_at, are_alike, alike_at}
use Rattle.fp_numbering.specs.Broken.{IsMissing, IsRepeated}
use Rattle.fp_numbering.specs.Partners.{is_seen, lacks, is_alone, is_one_more}
use Rattle.fp_numbering.proofs.Unique.{both_left, both_right}
use Rattle.fp_numbering.proofs.Keying.{alike_is, alike_back}

-- ---- a match among those of a component

pub contained : (test : ℕ × ℕ → Bool) (qs : List (ℕ × ℕ)) → list_any test qs ≡ true → (q : ℕ × ℕ) × Contains qs q × (test q ≡ true)
contained test [] h = cc
contained test (x ∷ qs) h =
    elim (or_cases (test x) (list_any test qs) h) [
      | inl a ↦ (x, (0, omega arith, refl), a)
      | inr b ↦ let r = contained test qs b in (r.0, (suc r.1.0, omega (arith, r.1.1), r.1.2), r.2)
    ]

among : (test : ℕ × ℕ → Bool) (qs : List (ℕ × ℕ)) (q : ℕ × ℕ) (k : ℕ) → k < length qs → get_or qs k q ≡ q → test q ≡ true → list_any test qs ≡ true
among test [] q k l e h = absurd (omega arith)
among test (x ∷ qs) q zero l e h = or_left (test x) (list_any test qs) (ap test e ∙ h)
among test (x ∷ qs) q (suc k) l e h = or_right (test x) (list_any test qs) (among test qs q k (omega arith) e h)

-- ---- ends seen

is_alike : (t s : Tip) (p : ℕ) → t.unmatched ≡ false → (are_alike t s && s.port == p) ≡ is_seen (t.instance, t.other, p) s
is_alike t s p u =
    ap (λ (b : Bool). not b && not s.unmatched && t.instance == s.instance && t.other == s.other && s.port == p) u ∙ grind (arith, nat_tests)

none_pass : {A : Type 0} (test other : A → Bool) → ((x : A) → test x ≡ other x) → (xs : List A) → length (filter test xs) ≡ 0 → list_any other xs ≡ false
none_pass test other e [] h = refl
none_pass test other e (x ∷ xs) h = part (test x) refl h (none_pass test other e xs)
  where
    part : (b : Bool) → test x ≡ b → length (cond b (x ∷ filter test xs) (filter test xs)) ≡ 0 → (length (filter test xs) ≡ 0 → list_any other xs ≡ false) → (other x || list_any other xs) ≡ false
    part true is l rest = absurd (omega arith)
    part false is l rest = ap (λ (b : Bool). b || list_any other xs) (sym (e x) ∙ is) ∙ rest l

pass_none : {A : Type 0} (test other : A → Bool) → ((x : A) → test x ≡ other x) → (xs : List A) → list_any other xs ≡ false → length (filter test xs) ≡ 0
pass_none test other e [] h = refl
pass_none test other e (x ∷ xs) h = part (test x) refl (pass_none test other e xs) h
  where
    part : (b : Bool) → test x ≡ b → (list_any other xs ≡ false → length (filter test xs) ≡ 0) → (other x || list_any other xs) ≡ false → length (cond b (x ∷ filter test xs) (filter test xs)) ≡ 0
    part true is rest f = cc (ap (λ (b : Bool). b || list_any other xs) (sym (e x) ∙ is) ∙ refl)
    part false is rest f = rest (sym (ap (λ (b : Bool). b || list_any other xs) (sym (e x) ∙ is)) ∙ f)

module _ (matches : ℕ → List (ℕ × ℕ)) (ts : List Tip) (k : ℕ) (t : Tip) (seen : ℕ × ℕ × ℕ → Bool) where
  pub missing_least : (b : Bool) (o : Option Refusal) → ((q : ℕ × ℕ × ℕ) → seen q ≡ list_any (is_seen q) ts) → b ≡ is_alone seen (matches t.instance) t
      → o ≡ cond b (Some (broken_at MatchPairMissing t.at)) None → IsLeast (IsMissing matches ts k t) o
  missing_least b o same is e =
      least_along (sym e)
      (least_same (λ f h. to f h) (λ f h. from f h)
      (least_if {Q = is_alone seen (matches t.instance) t ≡ true} b (broken_at MatchPairMissing t.at) (λ h. sym is ∙ h) (λ h r. cc (sym h ∙ is ∙ r))))
    where
      absent : (p : ℕ) → t.unmatched ≡ false → seen (t.instance, t.other, p) ≡ false → alike_at matches ts t p ≡ 0
      absent p u h = pass_none (λ s. are_alike t s && s.port == p) (is_seen (t.instance, t.other, p)) (λ s. is_alike t s p u) ts (sym (same (t.instance, t.other, p)) ∙ h)

      unseen : (p : ℕ) → t.unmatched ≡ false → alike_at matches ts t p ≡ 0 → seen (t.instance, t.other, p) ≡ false
      unseen p u h = same (t.instance, t.other, p) ∙ none_pass (λ s. are_alike t s && s.port == p) (is_seen (t.instance, t.other, p)) (λ s. is_alike t s p u) ts h

      to : (f : Refusal) → (f ≡ broken_at MatchPairMissing t.at) × (is_alone seen (matches t.instance) t ≡ true) → IsMissing matches ts k t f
      to f h =
          let u = not_true t.unmatched (both_left (not t.unmatched) (list_any (lacks seen t) (matches t.instance)) h.1) in
          let r = contained (lacks seen t) (matches t.instance) (both_right (not t.unmatched) (list_any (lacks seen t) (matches t.instance)) h.1) in
          let q = r.0 in
          let one = both_right (is_at q t) (not (seen (t.instance, t.other, q.0)) || not (seen (t.instance, t.other, q.1))) r.2 in (
            q,
            r.1,
            both_left (is_at q t) (not (seen (t.instance, t.other, q.0)) || not (seen (t.instance, t.other, q.1))) r.2,
            u,
            elim (or_cases (not (seen (t.instance, t.other, q.0))) (not (seen (t.instance, t.other, q.1))) one) [
              | inl a ↦ inl (absent q.0 u (not_true _ a))
              | inr b ↦ inr (absent q.1 u (not_true _ b))
            ],
            h.0,
          )

      from : (f : Refusal) → IsMissing matches ts k t f → (f ≡ broken_at MatchPairMissing t.at) × (is_alone seen (matches t.instance) t ≡ true)
      from f h =
          let q = h.0 in
          let u = h.3 in
          let one : (not (seen (t.instance, t.other, q.0)) || not (seen (t.instance, t.other, q.1))) ≡ true =
          elim h.4 [
            | inl a ↦ or_left (not (seen (t.instance, t.other, q.0))) (not (seen (t.instance, t.other, q.1))) (not_from_false _ (unseen q.0 u a))
            | inr b ↦ or_right (not (seen (t.instance, t.other, q.0))) (not (seen (t.instance, t.other, q.1))) (not_from_false _ (unseen q.1 u b))
          ] in (
            h.5,
            join (not t.unmatched) (list_any (lacks seen t) (matches t.instance)) (not_from_false t.unmatched u)
                (among (lacks seen t) (matches t.instance) q h.1.0 h.1.1 h.1.2 (join (is_at q t) _ h.2 one)),
          )

  pub repeated_least : (b : Bool) (o : Option Refusal) → ((q : ℕ × ℕ × ℕ) → seen q ≡ list_any (is_seen q) (take k ts)) → b ≡ is_one_more seen (matches t.instance) t
      → o ≡ cond b (Some (broken_at MatchPairRepeated t.at)) None → IsLeast (IsRepeated matches ts k t) o
  repeated_least b o same is e =
      least_along (sym e)
      (least_same (λ f h. to f h) (λ f h. from f h)
      (least_if {Q = is_one_more seen (matches t.instance) t ≡ true} b (broken_at MatchPairRepeated t.at) (λ h. sym is ∙ h) (λ h r. cc (sym h ∙ is ∙ r))))
    where
      alike_seen : (s : Tip) → is_seen (t.instance, t.other, t.port) s ≡ true → t.unmatched ≡ false → (are_alike s t ≡ true) × (s.port ≡ t.port)
      alike_seen s h u = (first, second)
        where
          same_end : (are_alike t s && s.port == t.port) ≡ true
          same_end = is_alike t s t.port u ∙ h

          first : are_alike s t ≡ true
          first = alike_back t s (both_left (are_alike t s) (s.port == t.port) same_end)

          second : s.port ≡ t.port
          second = let e = both_right (are_alike t s) (s.port == t.port) same_end in grind (arith, nat_tests)

      seen_alike : (s : Tip) → are_alike s t ≡ true → s.port ≡ t.port → (t.unmatched ≡ false) × (is_seen (t.instance, t.other, t.port) s ≡ true)
      seen_alike s h p =
          let u = (alike_is s t h).1 in
          let port : (s.port == t.port) ≡ true = grind (arith, nat_tests) in
          (u, sym (is_alike t s t.port u) ∙ join (are_alike t s) (s.port == t.port) (alike_back s t h) port)

      to : (f : Refusal) → (f ≡ broken_at MatchPairRepeated t.at) × (is_one_more seen (matches t.instance) t ≡ true) → IsRepeated matches ts k t f
      to f h =
          let front = both_left (not t.unmatched && seen (t.instance, t.other, t.port)) (list_any (λ q. is_at q t) (matches t.instance)) h.1 in
          let u = not_true t.unmatched (both_left (not t.unmatched) (seen (t.instance, t.other, t.port)) front) in
          let there = sym (same (t.instance, t.other, t.port)) ∙ both_right (not t.unmatched) (seen (t.instance, t.other, t.port)) front in
          let m = contained (λ q. is_at q t) (matches t.instance) (both_right (not t.unmatched && seen (t.instance, t.other, t.port)) (list_any (λ q. is_at q t) (matches t.instance)) h.1) in
          let r = found_before (is_seen (t.instance, t.other, t.port)) ts k there in
          let a = alike_seen r.1 r.4 u in
          (m.0, r.0, r.1, m.1, m.2, r.2, r.3, a.0, a.1, h.0)

      from : (f : Refusal) → IsRepeated matches ts k t f → (f ≡ broken_at MatchPairRepeated t.at) × (is_one_more seen (matches t.instance) t ≡ true)
      from f h =
          let s = h.2 in
          let a = seen_alike s h.7 h.8 in
          let there : seen (t.instance, t.other, t.port) ≡ true = same (t.instance, t.other, t.port) ∙ any_before (is_seen (t.instance, t.other, t.port)) ts k h.1 s h.5 h.6 a.1 in (
            h.9,
            join (not t.unmatched && seen (t.instance, t.other, t.port)) (list_any (λ q. is_at q t) (matches t.instance))
                (join (not t.unmatched) (seen (t.instance, t.other, t.port)) (not_from_false t.unmatched a.0) there)
                (among (λ q. is_at q t) (matches t.instance) h.0 h.3.0 h.3.1 h.3.2 h.4),
          )
