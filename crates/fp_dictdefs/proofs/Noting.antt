-- What was noted of the parts of a list, and which are repeated among them.
use Rattle.std.proofs.Common.{◌≡◌, Bool, true, false, ◌||◌, MatchBool, ℕ, ◌+◌, ◌<◌, ◌⊎◌, inl, inr, sym, subst, ◌∙◌, arith}
use Rattle.fp_base.proofs.Bools.{or_cases, or_left, or_right, not_both}
use Rattle.fp_base.proofs.Spots.{below_or_at}
use Rattle.fp_dictdefs.specs.Repeated.{IsRepeated}

module _ {K : Type 0} (has : ℕ → K → Type 0) where
  -- what was noted is what the first so many have
  pub record AreNoted (n : ℕ) (had : K → Bool) : Type 0 where
    pub to : (q : K) → had q ≡ true → (k : ℕ) × (k < n) × has k q
    pub from : (k : ℕ) (q : K) → k < n → has k q → had q ≡ true

  pub noted_none : (had : K → Bool) → ((q : K) → had q ≡ false) → AreNoted 0 had
  noted_none had none = record { to = λ q e. not_both e (none q); from = λ k q l h. absurd (omega arith) }

  pub noted_next : (n : ℕ) (had later is : K → Bool) → ((q : K) → later q ≡ (had q || is q)) → ((q : K) → is q ≡ true → has n q) → ((q : K) → has n q → is q ≡ true)
      → AreNoted n had → AreNoted (n + 1) later
  noted_next n had later is adds tells told noted = record {
    to = λ q e. found q (or_cases (had q) (is q) (sym (adds q) ∙ e));
    from = λ k q l h. adds q ∙ there k q h (below_or_at k n l);
  }
    where
      found : (q : K) → (had q ≡ true) ⊎ (is q ≡ true) → (k : ℕ) × (k < n + 1) × has k q
      found q (inl e) = let t = noted.to q e in let l = t.1 in (t.0, omega arith, t.2)
      found q (inr e) = (n, omega arith, tells q e)

      there : (k : ℕ) (q : K) → has k q → (k < n) ⊎ (k ≡ n) → (had q || is q) ≡ true
      there k q h (inl l) = or_left (had q) (is q) (noted.from k q l h)
      there k q h (inr s) = or_right (had q) (is q) (told q (subst (λ (i : ℕ). has i q) s h))

  -- what the next one has is repeated exactly where it was noted
  pub repeat_told : (n : ℕ) (q : K) (had : K → Bool) → has n q → ((p : K) → has n p → p ≡ q) → AreNoted n had → (b : Bool) → had q ≡ b
      → MatchBool b (IsRepeated has n) (IsRepeated has n → ⊥)
  repeat_told n q had here only noted true e = let t = noted.to q e in (q, t.0, t.1, t.2, here)
  repeat_told n q had here only noted false e = λ r. not_both (noted.from r.1 q r.2 (subst (λ (p : K). has r.1 p) (only r.0 r.4) r.3)) e

-- the same of another fact
pub flag_same : (P Q : Type 0) → (P → Q) → (Q → P) → (b : Bool) → MatchBool b P (P → ⊥) → MatchBool b Q (Q → ⊥)
flag_same P Q to back true h = to h
flag_same P Q to back false h = λ q. h (back q)
