-- Rows that get their targets one after another.
use Rattle.std.proofs.Common.{◌≡◌, ◌≢◌, ℕ, suc, ◌+◌, ◌≤◌, ◌⊎◌, inl, inr, Bool, true, false, cond, nat_eq, List, [], ◌∷◌, ◌++◌, length, drop, slice_get, Some, None, refl, sym, ap, subst, ◌∙◌, arith, length-append, append_assoc}
use Rattle.std.proofs.lemmas.Bool.{ne_eqb}
use Rattle.std.proofs.lemmas.Bool.Decides.{eqb_tells}
use Rattle.std.proofs.lemmas.List.{append-nil, drop_all}
use Rattle.fp_base.proofs.Lists.{past_end, drop_next}
use Rattle.fp_base.proofs.Spots.{get_push, same_or_other}
use Rattle.fp_uses.specs.Given.{AreNumbersFrom, AreBegun, given_to, Got, GotOne}

pub nat_eq_true : (u v : ℕ) → u ≡ v → nat_eq u v ≡ true
nat_eq_true u v same = go (eqb_tells u v)
  where
    go : ((nat_eq u v ≡ true) × (u ≡ v)) ⊎ ((nat_eq u v ≡ false) × (u ≢ v)) → nat_eq u v ≡ true
    go (inl t) = t.0
    go (inr t) = absurd (t.1 same)

pub nat_eq_false : (u v : ℕ) → u ≢ v → nat_eq u v ≡ false
nat_eq_false u v other = ne_eqb u v other

-- ---- the rows so far

pub record BegunFirst (counts : List ℕ) (k : ℕ) (rows : List (List ℕ)) : Type 0 where
  pub each : length rows ≡ k
  pub runs : (v n : ℕ) (row : List ℕ) → slice_get counts v ≡ Some n → slice_get rows v ≡ Some row → AreNumbersFrom (v + 1) n row

pub begun_next : (counts : List ℕ) (k count : ℕ) (rows : List (List ℕ)) (row : List ℕ) → slice_get counts k ≡ Some count → BegunFirst counts k rows → AreNumbersFrom (k + 1) count row
    → BegunFirst counts (k + 1) (rows ++ row ∷ [])
begun_next counts k count rows row at b r = record {
  each = length-append rows (row ∷ []) ∙ ap (λ (n : ℕ). n + 1) b.each;
  runs = λ v n x e f. go v n x e (get_push rows row x v f) f;
}
  where
    go : (v n : ℕ) (x : List ℕ) → slice_get counts v ≡ Some n → (slice_get rows v ≡ Some x) ⊎ ((v ≡ length rows) × (row ≡ x)) → slice_get (rows ++ row ∷ []) v ≡ Some x
        → AreNumbersFrom (v + 1) n x
    go v n x e (inl h) f = b.runs v n x e h
    go v n x e (inr (is, same)) f =
        let v_is : v ≡ k = is ∙ b.each in
        let n_at : slice_get counts k ≡ Some n = subst (λ (w : ℕ). slice_get counts w ≡ Some n) v_is e in
        let n_is : count ≡ n = cc in
        subst (λ (w : ℕ). AreNumbersFrom (w + 1) n x) (sym v_is) (subst (λ (m : ℕ). AreNumbersFrom (k + 1) m x) n_is (subst (λ (y : List ℕ). AreNumbersFrom (k + 1) count y) same r))

pub begun_all : (counts : List ℕ) (k : ℕ) (rows : List (List ℕ)) → k ≡ length counts → BegunFirst counts k rows → AreBegun counts rows
begun_all counts k rows end b = record { each = b.each ∙ end; runs = b.runs }

-- ---- the targets so far

pub record GivenFirst (us ts : List ℕ) (before : List (List ℕ)) (k : ℕ) (rows : List (List ℕ)) : Type 0 where
  pub each : length rows ≡ length before
  pub rest : (v : ℕ) (old : List ℕ) → slice_get before v ≡ Some old
      → (now : List ℕ) × (slice_get rows v ≡ Some now) × (now ++ given_to v (drop k us) (drop k ts) ≡ old ++ given_to v us ts)

pub given_none : (us ts : List ℕ) (before : List (List ℕ)) → GivenFirst us ts before 0 before
given_none us ts before = record { each = refl; rest = λ v old e. (old, e, refl) }

module _ (us ts : List ℕ) (before : List (List ℕ)) where
  chosen : (u v t : ℕ) (xs : List ℕ) → u ≡ v → cond (nat_eq u v) (t ∷ xs) xs ≡ t ∷ xs
  chosen u v t xs same = ap (λ (b : Bool). cond b (t ∷ xs) xs) (nat_eq_true u v same)

  left : (u v t : ℕ) (xs : List ℕ) → u ≢ v → cond (nat_eq u v) (t ∷ xs) xs ≡ xs
  left u v t xs other = ap (λ (b : Bool). cond b (t ∷ xs) xs) (nat_eq_false u v other)

  pub given_next : (k u t : ℕ) (rows after : List (List ℕ)) → slice_get us k ≡ Some u → slice_get ts k ≡ Some t → GivenFirst us ts before k rows → GotOne u t rows after
      → GivenFirst us ts before (suc k) after
  given_next k u t rows after at_u at_t g one = record {
    each = one.each ∙ g.each;
    rest = λ v old e. let h = g.rest v old e in go v old h.0 h.1 h.2 (same_or_other v u);
  }
    where
      opened : (v : ℕ) → given_to v (drop k us) (drop k ts) ≡ cond (nat_eq u v) (t ∷ given_to v (drop (suc k) us) (drop (suc k) ts)) (given_to v (drop (suc k) us) (drop (suc k) ts))
      opened v =
          ap (λ (xs : List ℕ). given_to v xs (drop k ts)) (drop_next us k u at_u)
          ∙ ap (λ (ys : List ℕ). given_to v (u ∷ drop (suc k) us) ys) (drop_next ts k t at_t)

      go : (v : ℕ) (old now : List ℕ) → slice_get rows v ≡ Some now → now ++ given_to v (drop k us) (drop k ts) ≡ old ++ given_to v us ts → (v ≡ u) ⊎ (v ≢ u)
          → (next : List ℕ) × (slice_get after v ≡ Some next) × (next ++ given_to v (drop (suc k) us) (drop (suc k) ts) ≡ old ++ given_to v us ts)
      go v old now here h (inl same) =
          let here_u : slice_get rows u ≡ Some now = subst (λ (w : ℕ). slice_get rows w ≡ Some now) same here in (
            now ++ t ∷ [],
            subst (λ (w : ℕ). slice_get after w ≡ Some (now ++ t ∷ [])) (sym same) (one.here now here_u),
            append_assoc now (t ∷ []) (given_to v (drop (suc k) us) (drop (suc k) ts))
                ∙ ap (λ (xs : List ℕ). now ++ xs) (sym (opened v ∙ chosen u v t (given_to v (drop (suc k) us) (drop (suc k) ts)) (sym same))) ∙ h,
          )
      go v old now here h (inr other) = (
        now,
        one.others v other ∙ here,
        ap (λ (xs : List ℕ). now ++ xs) (sym (opened v ∙ left u v t (given_to v (drop (suc k) us) (drop (suc k) ts)) (λ e. other (sym e)))) ∙ h,
      )

  pub given_one_more : (k u t : ℕ) (rows after : List (List ℕ)) → slice_get us k ≡ Some u → slice_get ts k ≡ Some t → GivenFirst us ts before k rows → GotOne u t rows after
      → GivenFirst us ts before (k + 1) after
  given_one_more k u t rows after at_u at_t g one =
      let same : suc k ≡ k + 1 = omega arith in
      subst (λ (n : ℕ). GivenFirst us ts before n after) same (given_next k u t rows after at_u at_t g one)

  ended : (k : ℕ) (rows : List (List ℕ)) → ((v : ℕ) → given_to v (drop k us) (drop k ts) ≡ []) → GivenFirst us ts before k rows → Got us ts before rows
  ended k rows none g = record {
    each = g.each;
    rows = λ v old e. let h = g.rest v old e in
        h.1 ∙ ap Some (sym (append-nil h.0) ∙ ap (λ (xs : List ℕ). h.0 ++ xs) (sym (none v)) ∙ h.2);
  }

  no_targets : (v : ℕ) (xs : List ℕ) → given_to {A = ℕ} v xs [] ≡ []
  no_targets v [] = refl
  no_targets v (x ∷ xs) = refl

  pub given_all : (k : ℕ) (rows : List (List ℕ)) → length us ≤ k → GivenFirst us ts before k rows → Got us ts before rows
  given_all k rows end g = ended k rows (λ v. ap (λ (xs : List ℕ). given_to v xs (drop k ts)) (drop_all k us end)) g

  pub given_short : (k : ℕ) (rows : List (List ℕ)) → length ts ≤ k → GivenFirst us ts before k rows → Got us ts before rows
  given_short k rows end g = ended k rows (λ v. ap (λ (ys : List ℕ). given_to v (drop k us) ys) (drop_all k ts end) ∙ no_targets v (drop k us)) g

pub given_where_short : (us ts : List ℕ) (before : List (List ℕ)) (k : ℕ) (rows : List (List ℕ)) → slice_get ts k ≡ None → GivenFirst us ts before k rows → Got us ts before rows
given_where_short us ts before k rows none g = given_short us ts before k rows (past_end ts k none) g
