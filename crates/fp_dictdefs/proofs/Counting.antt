-- The ids of a list, one after another.
use Rattle.std.proofs.Common.{◌≡◌, ℕ, suc, ◌+◌, ◌-◌, ◌<◌, ◌≤◌, ◌^◌, inl, inr, ℤ, pos, ◌+ℤ◌, Bool, true, false, not, ◌||◌, MatchBool, MatchOption, List, length, slice_get, Option, Some, None, option_map, is_eq, refl, sym, ap, subst, ◌∙◌, arith}
use Rattle.std.proofs.lemmas.Int.{ints}
use Rattle.fp_base.specs.declared.refusal.Refusal.{Refusal}
use Rattle.fp_base.specs.declared.rule.Rule.TheVariants.{IdRepeated, IdPast32Bits}
use Rattle.fp_base.specs.Least.{broken_at, InFirst, InSome, IsLeast, lesser_of}
use Rattle.fp_base.proofs.Calculus.{least_none, least_either, least_flag, least_along}
use Rattle.fp_base.proofs.Elements.{least_first_none, least_next, least_of_all}
use Rattle.fp_base.proofs.Options.{same_some}
use Rattle.fp_written_parts.specs.declared.port.Given.{Given}
use Rattle.fp_dictdefs.specs.declared.listed.Listed.{Listed}
use Rattle.fp_dictdefs.specs.Broken.{BrokenIdAt, IsPast, is_within}
use Rattle.fp_dictdefs.specs.Ids.{IsGivenOr, IsImplied, HasId}
use Rattle.fp_dictdefs.specs.Repeated.{IsRepeated}
use Rattle.fp_dictdefs.specs.Tested.{Fits, HasRoom, Long, StandsFor, IsAfter, given_or, id_fault, is_long, is_of_32_bits, long_cmp, short}
use Rattle.fp_dictdefs.proofs.Pairs.{long_itself, longs_equal, one_long, one_number, same_bits, stands_short}
use Rattle.fp_dictdefs.proofs.Noting.{AreNoted, flag_same, noted_none, noted_next, repeat_told}

-- a pair stands for the one number of which something is so; there is none where it is so of none
abbrev pub HoldsOnly : (ℤ → Type 0) → Option Long → Type 0
HoldsOnly Is None = (n : ℤ) → Is n → ⊥
HoldsOnly Is (Some p) = (n : ℤ) × Is n × StandsFor p n × ((m : ℤ) → Is m → m ≡ n)

-- past by at most so much
abbrev pub PastBy : ℕ → Option Long → Type 0
PastBy k None = Unit {0}
PastBy k (Some p) = p.1 ≤ k

holds_same : (P Q : ℤ → Type 0) → ((n : ℤ) → P n → Q n) → ((n : ℤ) → Q n → P n) → (o : Option Long) → HoldsOnly P o → HoldsOnly Q o
holds_same P Q to back None h = λ n q. h n (back n q)
holds_same P Q to back (Some p) h = (h.0, to h.0 h.1, h.2, λ m q. h.3 m (back m q))

numbered : (v : Option ℤ) → Fits (option_map short v) → HoldsOnly (λ n. v ≡ Some n) (option_map short v)
numbered None f = λ n e. absurd cc
numbered (Some n) f = (n, refl, stands_short n f, λ m e. sym (same_some e))

given_by : (implied : ℤ → Type 0) (o : Option Given) (i : Option Long) → HoldsOnly implied i → Fits (given_or i o) → HoldsOnly (IsGivenOr implied o) (given_or i o)
given_by implied None i h f = h
given_by implied (Some g) i h f = numbered g.number f

pub past_given : (k : ℕ) (o : Option Given) (i : Option Long) → PastBy k i → PastBy k (given_or i o)
past_given k None i h = h
past_given k (Some g) i h = go g.number
  where
    go : (v : Option ℤ) → PastBy k (option_map short v)
    go None = tt
    go (Some n) = omega arith

module _ (xs : List Listed) where
  abbrev pub HasLong : ℕ → Long → Type 0
  HasLong k p = (n : ℤ) × HasId xs k n × StandsFor p n

  pub id_given : (k : ℕ) (x : Listed) (i : Option Long) → slice_get xs k ≡ Some x → HoldsOnly (IsImplied xs k) i → Fits (given_or i x.id)
      → HoldsOnly (HasId xs k) (given_or i x.id)
  id_given k x i at h f =
      holds_same (IsGivenOr (IsImplied xs k) x.id) (HasId xs k) (λ n g. (x, at, g))
      (λ n t. subst (λ (y : Listed). IsGivenOr (IsImplied xs k) y.id n) (same_some (sym t.1 ∙ at)) t.2)
      (given_or i x.id) (given_by (IsImplied xs k) x.id i h f)

  -- ---- what is implied behind an id

  pub implied_next : (k : ℕ) (id next : Option Long) → HoldsOnly (HasId xs k) id → MatchOption next (id ≡ None) (λ q. (p : Long) × (id ≡ Some p) × IsAfter p q)
      → HoldsOnly (IsImplied xs (suc k)) next
  implied_next k id None h is = λ n t. subst (HoldsOnly (HasId xs k)) is h t.0 t.1
  implied_next k id (Some q) h is =
      let one = subst (HoldsOnly (HasId xs k)) is.1 h in
      (one.0 +ℤ pos 1, (one.0, one.1, refl), is.2.0 one.0 one.2, λ m t. t.2 ∙ ap (λ (z : ℤ). z +ℤ pos 1) (one.3 t.0 t.1))

  pub past_next : (k : ℕ) (id next : Option Long) → PastBy k id → MatchOption next (id ≡ None) (λ q. (p : Long) × (id ≡ Some p) × IsAfter p q) → PastBy (k + 1) next
  past_next k id None h is = tt
  past_next k id (Some q) h is = let low = subst (PastBy k) is.1 h in let more = is.2.1 in omega arith

  -- ---- what is broken by an id

  module _ (k : ℕ) (p : Long) (had : Long → Bool) (h : HoldsOnly (HasId xs k) (Some p)) (noted : AreNoted HasLong k had) where
    here : HasLong k p
    here = (h.0, h.1, h.2)

    only : (q : Long) → HasLong k q → q ≡ p
    only q t = one_long q p h.0 (subst (StandsFor q) (h.3 t.0 t.1) t.2) h.2

    to_ids : IsRepeated HasLong k → IsRepeated (HasId xs) k
    to_ids (q, e, l, there, mine) = (there.0, e, l, there.1, subst (HasId xs k) (one_number q mine.0 there.0 mine.2 there.2) mine.1)

    to_longs : IsRepeated (HasId xs) k → IsRepeated HasLong k
    to_longs (m, e, l, there, mine) = (p, e, l, (h.0, subst (HasId xs e) (h.3 m mine) there, h.2), here)

    repeated_flag : MatchBool (had p) (IsRepeated (HasId xs) k) (IsRepeated (HasId xs) k → ⊥)
    repeated_flag = flag_same (IsRepeated HasLong k) (IsRepeated (HasId xs) k) to_ids to_longs (had p) (repeat_told HasLong k p had here only noted (had p) refl)

    past_by : (b : Bool) → is_within (pos 0) (pos (2 ^ 32 - 1)) h.0 ≡ b → MatchBool (not b) (IsPast xs k) (IsPast xs k → ⊥)
    past_by true e = λ t. differ (sym e ∙ ap (is_within (pos 0) (pos (2 ^ 32 - 1))) (sym (h.3 t.0 t.1)) ∙ t.2)
      where
        differ : ◌≡◌ {A = Bool} true false → ⊥
        differ z = cc
    past_by false e = (h.0, h.1, e)

    past_flag : MatchBool (not (is_of_32_bits p)) (IsPast xs k) (IsPast xs k → ⊥)
    past_flag = past_by (is_of_32_bits p) (sym (same_bits p h.0 h.2))

  least_id : (k : ℕ) (x : Listed) (had : Long → Bool) (id : Option Long) → HoldsOnly (HasId xs k) id → AreNoted HasLong k had → IsLeast (BrokenIdAt xs k x) (id_fault had x.at id)
  least_id k x had None h noted = least_none (λ f. elim [
    | inl t ↦ h t.1.0 t.1.4
    | inr t ↦ h t.1.0 t.1.1
  ])
  least_id k x had (Some p) h noted =
      least_either _ _ (least_flag (IsRepeated (HasId xs) k) (had p) (broken_at IdRepeated x.at) (repeated_flag k p had h noted))
      (least_flag (IsPast xs k) (not (is_of_32_bits p)) (broken_at IdPast32Bits x.at) (past_flag k p had h noted))

  -- ---- what was noted

  long_tells : (k : ℕ) (id : Option Long) (q : Long) → HoldsOnly (HasId xs k) id → is_long q id ≡ true → HasLong k q
  long_tells k None q h e = absurd cc
  long_tells k (Some p) q h e = subst (HasLong k) (longs_equal p q e) (h.0, h.1, h.2)

  long_told : (k : ℕ) (id : Option Long) (q : Long) → HoldsOnly (HasId xs k) id → HasLong k q → is_long q id ≡ true
  long_told k None q h t = absurd (h t.0 t.1)
  long_told k (Some p) q h t =
      let same : q ≡ p = one_long q p h.0 (subst (StandsFor q) (h.3 t.0 t.1) t.2) h.2 in
      subst (λ (r : Long). is_eq (long_cmp p r) ≡ true) (sym same) (long_itself p)

  -- ---- one after another

  pub record IdsFirst (k : ℕ) (first : Option Refusal) (implied : Option Long) (had : Long → Bool) : Type 0 where
    pub least : IsLeast (InFirst k (BrokenIdAt xs) xs) first
    pub noted : AreNoted HasLong k had
    pub holds : HoldsOnly (IsImplied xs k) implied
    pub fits : Fits implied
    pub past : PastBy k implied

  pub ids_none : (had : Long → Bool) → ((q : Long) → had q ≡ false) → IdsFirst 0 None (Some (pos 0, 0)) had
  ids_none had none = record {
    least = least_first_none (BrokenIdAt xs) xs;
    noted = noted_none HasLong had none;
    holds = (pos 0, refl, stands_short (pos 0) (omega (arith, ints)), λ m e. e);
    fits = omega (arith, ints);
    past = omega arith;
  }

  pub ids_next : (k : ℕ) (x : Listed) (first more fault : Option Refusal) (implied id next : Option Long) (had later : Long → Bool) → slice_get xs k ≡ Some x
      → more ≡ lesser_of first fault → id ≡ given_or implied x.id → Fits id → fault ≡ id_fault had x.at id → ((q : Long) → later q ≡ (had q || is_long q id))
      → MatchOption next (id ≡ None) (λ q. (p : Long) × (id ≡ Some p) × IsAfter p q) → Fits next → IdsFirst k first implied had → IdsFirst (k + 1) more next later
  ids_next k x first more fault implied id next had later at is given fits found adds after fits_next before =
      let holds : HoldsOnly (HasId xs k) id = subst (HoldsOnly (HasId xs k)) (sym given) (id_given k x implied at before.holds (subst Fits given fits)) in
      let on : suc k ≡ k + 1 = omega arith in
      record {
        least = least_next (BrokenIdAt xs) xs k x first more fault at is (least_along (sym found) (least_id k x had id holds before.noted)) before.least;
        noted = noted_next HasLong k had later (λ q. is_long q id) adds (λ q e. long_tells k id q holds e) (λ q t. long_told k id q holds t) before.noted;
        holds = subst (λ (n : ℕ). HoldsOnly (IsImplied xs n) next) on (implied_next k id next holds after);
        fits = fits_next;
        past = past_next k id next (subst (PastBy k) (sym given) (past_given k x.id implied before.past)) after;
      }

  pub ids_all : (k : ℕ) (first : Option Refusal) (implied : Option Long) (had : Long → Bool) → length xs ≤ k → IdsFirst k first implied had → IsLeast (InSome (BrokenIdAt xs) xs) first
  ids_all k first implied had past h = least_of_all (BrokenIdAt xs) xs k first past h.least

-- what is past by less than there are elements has a number after it
pub has_room : (k n : ℕ) (id : Option Long) → PastBy k id → k < n → n < 2 ^ 64 → HasRoom id
has_room k n None h l m = tt
has_room k n (Some p) h l m = omega arith
