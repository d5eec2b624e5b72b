-- Ways along imports, and induction along them where they lead to no cycle.
use Rattle.std.proofs.Common.{◌≡◌, ◌∙◌, ◌==◌, ◌||◌, ◌⊎◌, inl, inr, ◌<◌, ◌≤◌, ℕ, zero, suc, Bool, true, false, cond, List, [], ◌∷◌, length, refl, sym, ap, subst, arith}
use Rattle.std.specs.List.{AllByRecursion}
use Rattle.std.proofs.lemmas.Bool.Decides.{nat_tests}
use Rattle.std.proofs.lemmas.Option.{slice_get_within}
use Rattle.fp_base.proofs.Lists.{each_weaker}
use Rattle.fp_base.proofs.Numbers.{same_number}
use Rattle.fp_graph.specs.Chains.{IsOnCycle, LeadsThrough, one, more}
use Rattle.fp_graph.proofs.Leading.{leads_join}
use Rattle.fp_written_parts.specs.declared.topology.WrittenTopology.{WrittenTopology}
use Rattle.fp_topologies.specs.ImportFirsts.{has_number}
use Rattle.fp_topologies.specs.Imports.{Imports, LeadsToCycle, Reaches}

-- ---- of numbers below a limit those that aren't in a list

abbrev left : ℕ → List ℕ → ℕ
left zero path = zero
left (suc n) path = cond (has_number n path) (left n path) (suc (left n path))

left_less : (n t : ℕ) (path : List ℕ) → left n (t ∷ path) ≤ left n path
left_less zero t path = omega arith
left_less (suc n) t path = go (t == n) (has_number n path) (left_less n t path)
  where
    go : (a b : Bool) → left n (t ∷ path) ≤ left n path → cond (a || b) (left n (t ∷ path)) (suc (left n (t ∷ path))) ≤ cond b (left n path) (suc (left n path))
    go true true h = h
    go true false h = omega arith
    go false true h = h
    go false false h = omega arith

left_fewer : (n t : ℕ) (path : List ℕ) → t < n → has_number t path ≡ false → left n (t ∷ path) < left n path
left_fewer zero t path low new = absurd (omega arith)
left_fewer (suc n) t path low new = go (t == n) refl (has_number n path) refl (λ less. left_fewer n t path less new)
  where
    below : (t == n) ≡ false → t < n
    below e = grind (arith, nat_tests)

    go : (a : Bool) → (t == n) ≡ a → (b : Bool) → has_number n path ≡ b → (t < n → left n (t ∷ path) < left n path)
        → cond (a || b) (left n (t ∷ path)) (suc (left n (t ∷ path))) < cond b (left n path) (suc (left n path))
    go true is true there rest = let same : has_number t path ≡ true = ap (λ (k : ℕ). has_number k path) (same_number t n is) ∙ there in absurd (cc)
    go true is false there rest = let less = left_less n t path in omega arith
    go false is true there rest = rest (below is)
    go false is false there rest = let less = rest (below is) in omega arith

-- ---- ways

module _ (ts : List WrittenTopology) where
  pub first_step : {a b : ℕ} → LeadsThrough (Imports ts) a b → (w : ℕ) × Imports ts a w × Reaches ts w b
  first_step (one {to = b} i) = (b, i, inl refl)
  first_step (more {to = c} p i) = let t = first_step p in (t.0, t.1, go t.2 i)
    where
      go : {w b : ℕ} → Reaches ts w b → Imports ts b c → Reaches ts w c
      go (inl e) j = inr (one (subst (λ (x : ℕ). Imports ts x c) (sym e) j))
      go (inr q) j = inr (more q j)

  pub reaches_behind : {a b c : ℕ} → Imports ts a b → Reaches ts b c → LeadsThrough (Imports ts) a c
  reaches_behind {a = a} i (inl e) = subst (λ (x : ℕ). LeadsThrough (Imports ts) a x) e (one i)
  reaches_behind i (inr p) = leads_join (one i) p

  -- what it imports leads to a cycle
  pub leads_behind : (t w : ℕ) → Imports ts t w → LeadsToCycle ts w → LeadsToCycle ts t
  leads_behind t w i c = (c.0, inr (reaches_behind i c.1), c.2)

  pub cycle_leads : (t : ℕ) → IsOnCycle (Imports ts) t → LeadsToCycle ts t
  cycle_leads t c = (t, inl refl, c)

  -- it is on one, or imports what leads to one
  pub leads_by : (t : ℕ) → LeadsToCycle ts t → IsOnCycle (Imports ts) t ⊎ ((w : ℕ) × Imports ts t w × LeadsToCycle ts w)
  leads_by t c = go c.1
    where
      go : Reaches ts t c.0 → IsOnCycle (Imports ts) t ⊎ ((w : ℕ) × Imports ts t w × LeadsToCycle ts w)
      go (inl e) = inl (subst (IsOnCycle (Imports ts)) (sym e) c.2)
      go (inr p) = let s = first_step p in inr (s.0, s.1, (c.0, s.2, c.2))

  -- ---- induction

  abbrev AllReach : ℕ → List ℕ → Type 0
  AllReach t path = AllByRecursion (λ (p : ℕ). LeadsThrough (Imports ts) p t) path

  import_within : (t w : ℕ) → Imports ts t w → t < length ts
  import_within t w i = slice_get_within ts t i.written i.here

  in_path : (t : ℕ) (path : List ℕ) → AllReach t path → has_number t path ≡ true → IsOnCycle (Imports ts) t
  in_path t [] h e = absurd (cc)
  in_path t (p ∷ path) h e = go (p == t) refl e (in_path t path h.1)
    where
      go : (a : Bool) → (p == t) ≡ a → (a || has_number t path) ≡ true → (has_number t path ≡ true → IsOnCycle (Imports ts) t) → IsOnCycle (Imports ts) t
      go true is x rest = subst (λ (q : ℕ). LeadsThrough (Imports ts) q t) (same_number p t is) h.0
      go false is x rest = rest x

  module _ (P : ℕ → Type 0) (step : (t : ℕ) → (LeadsToCycle ts t → ⊥) → ((w : ℕ) → Imports ts t w → P w) → P t) where
    down : (n t : ℕ) (path : List ℕ) → left (length ts) path < n → AllReach t path → (LeadsToCycle ts t → ⊥) → P t
    down zero t path low reach free = absurd (omega arith)
    down (suc n) t path low reach free =
        step t free
        (λ w i.
        let new : has_number t path ≡ false = fresh (has_number t path) refl in
        let fewer = left_fewer (length ts) t path (import_within t w i) new in
        down n w (t ∷ path) (omega arith) (one i, each_weaker (λ (p : ℕ). LeadsThrough (Imports ts) p t) (λ (p : ℕ). LeadsThrough (Imports ts) p w) (λ p q. more q i) path reach)
        (λ c. free (leads_behind t w i c)))
      where
        fresh : (b : Bool) → has_number t path ≡ b → has_number t path ≡ false
        fresh true e = absurd (free (cycle_leads t (in_path t path reach e)))
        fresh false e = e

    -- what holds of each that leads to no cycle where it holds of all that it imports
    pub by_imports : (t : ℕ) → (LeadsToCycle ts t → ⊥) → P t
    by_imports t free = down (suc (left (length ts) [])) t [] (omega arith) tt free
