-- The ids of a list as numbers of 32 bits, one after another.
use Rattle.std.proofs.Common.{◌≡◌, ◌∙◌, ℕ, suc, ◌+◌, ◌<◌, ◌^◌, ◌⊎◌, inl, inr, pos, MatchOption, List, [], ◌∷◌, ◌++◌, length, slice_get, Option, Some, None, refl, sym, ap, subst, arith}
use Rattle.std.proofs.lemmas.Int.{ints}
use Rattle.std.proofs.lemmas.List.{length-append}
use Rattle.fp_base.proofs.Spots.{get_push}
use Rattle.fp_dictdefs.specs.declared.listed.Listed.{Listed}
use Rattle.fp_dictdefs.specs.Ids.{AreIds, HasId, IsImplied}
use Rattle.fp_dictdefs.specs.Tested.{Fits, Long, StandsFor, IsAfter, given_or}
use Rattle.fp_dictdefs.proofs.Counting.{HoldsOnly, PastBy, id_given, implied_next, past_given, past_next}
use Rattle.fp_dictdefs.proofs.Pairs.{stands_short}

module _ (xs : List Listed) where
  stands : (k n : ℕ) (o : Option Long) → HoldsOnly (HasId xs k) o → HasId xs k (pos n) → (p : Long) × (o ≡ Some p) × StandsFor p (pos n)
  stands k n None h has = absurd (h (pos n) has)
  stands k n (Some p) h has = (p, refl, subst (StandsFor p) (sym (h.3 (pos n) has)) h.2)

  pub record IdsListed (k : ℕ) (implied : Option Long) (ids : List ℕ) : Type 0 where
    pub each : length ids ≡ k
    pub of : (j id n : ℕ) → slice_get ids j ≡ Some id → HasId xs j (pos n) → n < 2 ^ 32 → id ≡ n
    pub holds : HoldsOnly (IsImplied xs k) implied
    pub fits : Fits implied
    pub past : PastBy k implied

  no_id : {B : Type 0} (ids : List ℕ) (j id : ℕ) → ids ≡ [] → slice_get ids j ≡ Some id → B
  no_id ids j id none e = absurd (cc (subst (λ (ns : List ℕ). slice_get ns j ≡ Some id) none e))

  pub listed_none : (ids : List ℕ) → ids ≡ [] → IdsListed 0 (Some (pos 0, 0)) ids
  listed_none ids none = record {
    each = ap (λ (ns : List ℕ). length ns) none;
    of = λ j id n e has lt. no_id ids j id none e;
    holds = (pos 0, refl, stands_short (pos 0) (omega (arith, ints)), λ m e. e);
    fits = omega (arith, ints);
    past = omega arith;
  }

  pub listed_next : (k : ℕ) (x : Listed) (implied id next : Option Long) (ids more : List ℕ) (short : ℕ) → slice_get xs k ≡ Some x → id ≡ given_or implied x.id → Fits id
      → ((p : Long) (n : ℕ) → id ≡ Some p → StandsFor p (pos n) → n < 2 ^ 32 → short ≡ n) → more ≡ ids ++ short ∷ []
      → MatchOption next (id ≡ None) (λ q. (p : Long) × (id ≡ Some p) × IsAfter p q) → Fits next → IdsListed k implied ids → IdsListed (k + 1) next more
  listed_next k x implied id next ids more short at given fits is pushed after fits_next before =
      let holds : HoldsOnly (HasId xs k) id = subst (HoldsOnly (HasId xs k)) (sym given) (id_given xs k x implied at before.holds (subst Fits given fits)) in
      let on : suc k ≡ k + 1 = omega arith in
      record {
        each = ap (λ (ns : List ℕ). length ns) pushed ∙ length-append ids (short ∷ []) ∙ ap (λ (n : ℕ). n + 1) before.each;
        of = λ j i n e has lt. go holds j i n has lt (get_push ids short i j (subst (λ (ns : List ℕ). slice_get ns j ≡ Some i) pushed e));
        holds = subst (λ (n : ℕ). HoldsOnly (IsImplied xs n) next) on (implied_next xs k id next holds after);
        fits = fits_next;
        past = past_next xs k id next (subst (PastBy k) (sym given) (past_given k x.id implied before.past)) after;
      }
    where
      go : HoldsOnly (HasId xs k) id → (j i n : ℕ) → HasId xs j (pos n) → n < 2 ^ 32 → (slice_get ids j ≡ Some i) ⊎ ((j ≡ length ids) × (short ≡ i)) → i ≡ n
      go holds j i n has lt (inl e) = before.of j i n e has lt
      go holds j i n has lt (inr t) =
          let p = stands k n id holds (subst (λ (m : ℕ). HasId xs m (pos n)) (t.0 ∙ before.each) has) in
          sym t.1 ∙ is p.0 n p.1 p.2 lt

  pub listed_all : (k : ℕ) (implied : Option Long) (ids : List ℕ) → length xs ≡ k → IdsListed k implied ids → AreIds xs ids
  listed_all k implied ids all h = record { each = h.each ∙ sym all; of = h.of }
