-- What stands a second time, and the initial transitions of states.
use Rattle.std.proofs.Common.{◌≡◌, ℕ, ◌+◌, ◌<◌, ◌⊎◌, ◌||◌, ◌==◌, not, Bool, true, false, MatchBool, List, [], ◌∷◌, ◌++◌, length, slice_get, Option, Some, None, option_map, unwrap_or, refl, sym, ap, subst, ◌∙◌, inl, inr, arith, eq-eqb}
use Rattle.std.specs.Option.{option_cmp}
use Rattle.std.specs.Ordering.{nat_cmp, is_eq}
use Rattle.std.proofs.lemmas.Bool.Decides.{nat_tests}
use Rattle.std.proofs.lemmas.Option.{slice_get_within}
use Rattle.std.proofs.lemmas.Bool.{eqb-true}
use Rattle.fp_base.proofs.Bools.{both, join, or_cases, or_left, or_right, not_true, not_both}
use Rattle.fp_base.proofs.Options.{same_some}
use Rattle.fp_base.proofs.Spots.{get_push, below_or_at}
use Rattle.fp_base.proofs.Comparing.{both_equal, numbers_equal}
use Rattle.fp_machine_rules.specs.declared.item.Item.{Item}
use Rattle.fp_machine_rules.specs.declared.gathering.Parts.{Parts}
use Rattle.fp_machine_rules.specs.Forms.{is_state}
use Rattle.fp_machine_rules.specs.Members.{StateCountsWrong, wanted_beside, names, initials}
use Rattle.fp_machine_rules.specs.Gathered.{AreGathered, parts_count_wrong, state_counts_wrong}
use Rattle.fp_machine_rules.specs.Repeated.{Key, IsRepeated, key_cmp, is_key, is_noted}
use Rattle.fp_machine_rules.specs.Undefined.{flags_from}
use Rattle.fp_machine_rules.specs.Leaving.{AreFlags}
use Rattle.fp_machine_rules.proofs.Deciding.{decided, and_not, flags_tell}

-- ---- keys

number_itself : (n : ℕ) → is_eq (nat_cmp n n) ≡ true
number_itself n = grind (arith, nat_tests)

parents_equal : (p q : Option ℕ) → is_eq (option_cmp nat_cmp p q) ≡ true → p ≡ q
parents_equal None None e = refl
parents_equal None (Some q) e = absurd cc
parents_equal (Some p) None e = absurd cc
parents_equal (Some p) (Some q) e = ap (λ (n : ℕ). Some n) (numbers_equal p q e)

parent_itself : (p : Option ℕ) → is_eq (option_cmp nat_cmp p p) ≡ true
parent_itself None = refl
parent_itself (Some p) = number_itself p

pub keys_equal : (a b : Key) → is_eq (key_cmp a b) ≡ true → a ≡ b
keys_equal (p, m) (q, n) e =
    let t = both (is_eq (option_cmp nat_cmp p q)) (is_eq (nat_cmp m n)) (sym (both_equal (option_cmp nat_cmp p q) (nat_cmp m n)) ∙ e) in
    same_pair p q m n (parents_equal p q t.0) (numbers_equal m n t.1)
  where
    same_pair : (p q : Option ℕ) (m n : ℕ) → p ≡ q → m ≡ n → ◌≡◌ {A = Key} (p, m) (q, n)
    same_pair p q m n e f = subst (λ (o : Option ℕ). ◌≡◌ {A = Key} (p, m) (o, n)) e (subst (λ (k : ℕ). ◌≡◌ {A = Key} (p, m) (p, k)) f refl)

pub key_itself : (a : Key) → is_eq (key_cmp a a) ≡ true
key_itself (p, n) = both_equal (option_cmp nat_cmp p p) (nat_cmp n n) ∙ join (is_eq (option_cmp nat_cmp p p)) (is_eq (nat_cmp n n)) (parent_itself p) (number_itself n)

pub is_key_same : (q : Key) (key : Option Key) → is_key q key ≡ true → key ≡ Some q
is_key_same q None e = absurd cc
is_key_same q (Some k) e = ap (λ (x : Key). Some x) (keys_equal k q e)

pub same_is_key : (q : Key) (key : Option Key) → key ≡ Some q → is_key q key ≡ true
same_is_key q key e = subst (λ (o : Option Key). is_key q o ≡ true) (sym e) (key_itself q)

-- what was noted and flagged of the first n
pub record IsFlagged (keys : List (Option Key)) (n : ℕ) (had : Key → Bool) (flags : List Bool) : Type 0 where
  pub each : length flags ≡ n
  pub exact : (v : ℕ) (b : Bool) → slice_get flags v ≡ Some b → MatchBool b (IsRepeated keys v) (IsRepeated keys v → ⊥)
  pub noted : (q : Key) → had q ≡ true → (k : ℕ) × (k < n) × (slice_get keys k ≡ Some (Some q))
  pub all : (k : ℕ) (q : Key) → k < n → slice_get keys k ≡ Some (Some q) → had q ≡ true

pub flagging_begins : (keys : List (Option Key)) (had : Key → Bool) → ((q : Key) → had q ≡ false) → IsFlagged keys 0 had []
flagging_begins keys had none =
    record { each = refl; exact = λ v b e. absurd (empty b e); noted = λ q e. absurd (not_both e (none q)); all = λ k q l e. absurd (omega arith) }
  where
    empty : (b : Bool) → ◌≡◌ {A = Option Bool} None (Some b) → ⊥
    empty b e = cc

module _ (keys : List (Option Key)) (n : ℕ) (key : Option Key) (had has : Key → Bool) (flags flags' : List Bool) where
  pub flagging_goes_on : IsFlagged keys n had flags → slice_get keys n ≡ Some key → ((q : Key) → has q ≡ (had q || is_key q key))
      → flags' ≡ flags ++ is_noted had key ∷ [] → length flags' ≡ n + 1 → IsFlagged keys (n + 1) has flags'
  flagging_goes_on h here notes is size = record {
    each = size;
    exact = λ v b e. exact_by v b (get_push flags (is_noted had key) b v (ap (λ (fs : List Bool). slice_get fs v) (sym is) ∙ e));
    noted = λ q e. noted_by q (or_cases (had q) (is_key q key) (sym (notes q) ∙ e));
    all = λ k q l. all_by k q (below_or_at k n l);
  }
    where
      told_by : (o : Option Key) → slice_get keys n ≡ Some o → MatchBool (is_noted had o) (IsRepeated keys n) (IsRepeated keys n → ⊥)
      told_by None at = λ r. differ r.same (same_some (sym at ∙ r.here))
        where
          differ : (k : Key) → ◌≡◌ {A = Option Key} None (Some k) → ⊥
          differ k z = cc
      told_by (Some x) at =
          decided (had x) (IsRepeated keys n)
          (λ e. let t = h.noted x e in record { earlier = t.0; before = t.1; same = x; there = t.2; here = at })
          (λ e r. not_both (h.all r.earlier x r.before (r.there ∙ sym r.here ∙ at)) e)

      exact_by : (v : ℕ) (b : Bool) → (slice_get flags v ≡ Some b) ⊎ ((v ≡ length flags) × (is_noted had key ≡ b)) → MatchBool b (IsRepeated keys v) (IsRepeated keys v → ⊥)
      exact_by v b (inl e) = h.exact v b e
      exact_by v b (inr t) =
          subst (λ (k : ℕ). MatchBool b (IsRepeated keys k) (IsRepeated keys k → ⊥)) (sym (t.0 ∙ h.each))
          (subst (λ (c : Bool). MatchBool c (IsRepeated keys n) (IsRepeated keys n → ⊥)) t.1 (told_by key here))

      noted_by : (q : Key) → (had q ≡ true) ⊎ (is_key q key ≡ true) → (k : ℕ) × (k < n + 1) × (slice_get keys k ≡ Some (Some q))
      noted_by q (inl e) = let t = h.noted q e in (t.0, (let l = t.1 in omega arith), t.2)
      noted_by q (inr e) = (n, omega arith, here ∙ ap (λ (o : Option Key). Some o) (is_key_same q key e))

      all_by : (k : ℕ) (q : Key) → (k < n) ⊎ (k ≡ n) → slice_get keys k ≡ Some (Some q) → has q ≡ true
      all_by k q (inl l) e = notes q ∙ or_left (had q) (is_key q key) (h.all k q l e)
      all_by k q (inr s) e =
          notes q
          ∙ or_right (had q) (is_key q key)
          (same_is_key q key (same_some (sym here ∙ (ap (λ (m : ℕ). slice_get keys m) (sym s) ∙ e))))

pub flagging_ends : (keys : List (Option Key)) (had : Key → Bool) (flags : List Bool) → IsFlagged keys (length keys) had flags → AreFlags (IsRepeated keys) (length keys) flags
flagging_ends keys had flags h = record { each = h.each; exact = h.exact }

-- ---- initial transitions

pub count_told : (items : List Item) (table : List Parts) (top : Parts) (flags : List Bool) → AreGathered items (length items) table top
    → flags ≡ flags_from (state_counts_wrong table) 0 items → AreFlags (StateCountsWrong items) (length items) flags
count_told items table top flags h is = flags_tell (StateCountsWrong items) (state_counts_wrong table) items flags is each
  where
    some_same : (x y : Item) → ◌≡◌ {A = Option Item} (Some x) (Some y) → x ≡ y
    some_same x y z = cc

    each : (v : ℕ) (x : Item) → slice_get items v ≡ Some x → MatchBool (state_counts_wrong table v x) (StateCountsWrong items v) (StateCountsWrong items v → ⊥)
    each v x here = decided (state_counts_wrong table v x) (StateCountsWrong items v) to back
      where
        wrong : unwrap_or (option_map parts_count_wrong (slice_get table v)) false ≡ not (length (initials items (Some v)) == wanted_beside (names items (Some v)))
        wrong = ap (λ (o : Option Parts). unwrap_or (option_map parts_count_wrong o) false) (h.exact v (slice_get_within items v x here))

        to : state_counts_wrong table v x ≡ true → StateCountsWrong items v
        to e =
            let p = both (is_state x.form) (unwrap_or (option_map parts_count_wrong (slice_get table v)) false) e in (
              record { item = x; here = here; holds = p.0 },
              λ s. not_both (eq-eqb _ _ s) (not_true _ (sym wrong ∙ p.1)),
            )

        back : state_counts_wrong table v x ≡ false → StateCountsWrong items v → ⊥
        back e u =
            and_not (is_state x.form) (unwrap_or (option_map parts_count_wrong (slice_get table v)) false) e
            (ap (λ (y : Item). is_state y.form) (some_same x u.0.item (sym here ∙ u.0.here)) ∙ u.0.holds)
            (wrong ∙ differ (length (initials items (Some v)) == wanted_beside (names items (Some v))) (λ s. u.1 (eqb-true _ _ s)))
          where
            differ : (b : Bool) → (b ≡ true → ⊥) → not b ≡ true
            differ true n = absurd (n refl)
            differ false n = refl
