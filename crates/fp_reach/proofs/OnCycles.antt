-- Vertices on cycles, by the flags of their numbers.
use Rattle.std.proofs.Common.{◌≡◌, ◌∙◌, inl, inr, ℕ, ◌<◌, Bool, true, false, cond, List, [], ◌∷◌, flat_map, length, slice_get, Option, Some, None, refl, sym, ap, subst, arith}
use Rattle.std.specs.Prelude.{option_and_then, unwrap_or}
use Rattle.std.specs.declared.cmp.Ordering.{Ordering}
use Rattle.std.specs.BTreeMap.{BTreeMap}
use Rattle.fp_base.proofs.Options.{one_some}
use Rattle.fp_base.proofs.Spots.{item_below}
use Rattle.fp_graph.specs.Chains.{LeadsThrough, one, more, IsOnCycle, AreFlags}
use Rattle.fp_graph.specs.Rows.{IsListed}
use Rattle.fp_graph.specs.Visits.{Among}
use Rattle.fp_reach.specs.Reaching.{Reaches, once, again}
use Rattle.fp_reach.specs.Rings.{Step, IsNumbered, AreOnCycles, number_in, is_flagged, flagged}
use Rattle.fp_reach.proofs.Amid.{among_flat, flat_among, reaches_join, last_step}

leads_front : {L : ℕ → ℕ → Type 0} {a b c : ℕ} → L a b → LeadsThrough L b c → LeadsThrough L a c
leads_front l (one k) = more (one l) k
leads_front l (more p k) = more (leads_front l p) k

module _ {K : Type 0} (cmp : K → K → Ordering) (edges : List (K × K)) (numbers : BTreeMap K ℕ) (rows : List (List ℕ)) (g : IsNumbered cmp edges numbers rows) where
  stands_at : (a b : ℕ) → IsListed rows a b → (x y : K) × (number_in cmp numbers x ≡ Some a) × (number_in cmp numbers y ≡ Some b) × Step edges x y
  stands_at a b l = g.stands a b (record { row = l.row; here = l.here; k = l.k; target = l.target })

  listed_at : (x y : K) → Step edges x y → (a b : ℕ) × (number_in cmp numbers x ≡ Some a) × (number_in cmp numbers y ≡ Some b) × IsListed rows a b
  listed_at x y s =
      let t = g.listed x y s in
      (t.0, t.1, t.2, t.3, record { row = t.4.row; here = t.4.here; k = t.4.k; target = t.4.target; within = g.within y t.1 t.3 })

  up : {a b : ℕ} → LeadsThrough (IsListed rows) a b → (x y : K) × (number_in cmp numbers x ≡ Some a) × (number_in cmp numbers y ≡ Some b) × Reaches (Step edges) x y
  up (one {from = a} {to = b} l) = let s = stands_at a b l in (s.0, s.1, s.2, s.3, once s.4)
  up (more {from = a} {between = b} {to = c} p l) =
      let t = up p in
      let s = stands_at b c l in
      let same : s.0 ≡ t.1 = g.one s.0 t.1 b s.2 t.3 in
      (t.0, s.1, t.2, s.3, reaches_join t.4 (once (subst (λ (x : K). Step edges x s.1) same s.4)))

  down : {x y : K} → Reaches (Step edges) x y → (a b : ℕ) × (number_in cmp numbers x ≡ Some a) × (number_in cmp numbers y ≡ Some b) × LeadsThrough (IsListed rows) a b
  down (once {u = x} {v = y} s) = let t = listed_at x y s in (t.0, t.1, t.2, t.3, one t.4)
  down (again {u = x} {v = y} s p) =
      let t = listed_at x y s in
      let r = down p in
      let same : t.1 ≡ r.0 = one_some (number_in cmp numbers y) t.1 r.0 t.3 r.2 in
      (t.0, r.1, t.2, r.3, leads_front (subst (λ (n : ℕ). IsListed rows t.0 n) same t.4) r.4)

  module _ (flags : List Bool) (right : AreFlags (length rows) (IsOnCycle (IsListed rows)) flags) where
    read_true : (o : Option ℕ) → unwrap_or (option_and_then (slice_get flags) o) false ≡ true → (n : ℕ) × (o ≡ Some n) × (slice_get flags n ≡ Some true)
    read_true None h = absurd (cc)
    read_true (Some n) h = (n, refl, held (slice_get flags n) h)
      where
        held : (f : Option Bool) → unwrap_or f false ≡ true → f ≡ Some true
        held None k = absurd (cc)
        held (Some b) k = ap Some k

    on_flag : (x : K) → is_flagged cmp numbers flags x ≡ true → Reaches (Step edges) x x
    on_flag x h =
        let t = read_true (number_in cmp numbers x) h in
        let r = up (right.exact t.0 true t.2) in
        let first : r.0 ≡ x = g.one r.0 x t.0 r.2 t.1 in
        let last : r.1 ≡ x = g.one r.1 x t.0 r.3 t.1 in
        subst (λ (z : K). Reaches (Step edges) x z) last (subst (λ (z : K). Reaches (Step edges) z r.1) first r.4)

    flag_is : (n : ℕ) (b : Bool) → slice_get flags n ≡ Some b → IsOnCycle (IsListed rows) n → b ≡ true
    flag_is n true e l = refl
    flag_is n false e l = absurd (right.exact n false e l)

    flag_on : (x : K) → Reaches (Step edges) x x → is_flagged cmp numbers flags x ≡ true
    flag_on x r =
        let t = down r in
        let same : t.1 ≡ t.0 = one_some (number_in cmp numbers x) t.1 t.0 t.3 t.2 in
        let low : t.0 < length flags = let w = g.within x t.0 t.2 in let each = right.each in omega arith in
        let f = item_below flags t.0 low in
        let yes : f.0 ≡ true = flag_is t.0 f.0 f.1 (subst (λ (n : ℕ). LeadsThrough (IsListed rows) t.0 n) same t.4) in
        ap (λ (o : Option ℕ). unwrap_or (option_and_then (slice_get flags) o) false) t.2 ∙ ap (λ (o : Option Bool). unwrap_or o false) f.1 ∙ yes

    flagged_is : (b : Bool) (x y : K) → Among (cond b (x ∷ []) []) y → (b ≡ true) × (x ≡ y)
    flagged_is true x y (inl e) = (refl, e)
    flagged_is true x y (inr h) = absurd h
    flagged_is false x y h = absurd h

    pub on_cycles_found : (found : List K) → found ≡ flat_map (flagged cmp numbers flags) edges → AreOnCycles edges found
    on_cycles_found found is = record {
      sound = λ x h.
          let t = among_flat (flagged cmp numbers flags) edges x (subst (λ (xs : List K). Among xs x) is h) in
          let f = flagged_is (is_flagged cmp numbers flags t.0.1) t.0.1 x t.2 in
          on_flag x (ap (is_flagged cmp numbers flags) (sym f.1) ∙ f.0);
      complete = λ x r.
          let s = last_step r in
          let f : is_flagged cmp numbers flags x ≡ true = flag_on x r in
          subst (λ (xs : List K). Among xs x) (sym is)
          (flat_among (flagged cmp numbers flags) edges (s.0, x) x s.1 (subst (λ (b : Bool). Among (cond b (x ∷ []) []) x) (sym f) (inl refl)));
    }
