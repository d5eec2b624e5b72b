-- A grammar that passes the test for the tokens of lookahead, over good nonterminals, is good.
use Rattle.fp_grammar.specs.Promises.{IsGood, RefsGood}
use Rattle.std.proofs.Common.{◌≡◌, ℕ, true, not, ◌&&◌, List, [], ◌∷◌, ◌++◌, ◌⊎◌, ◌||◌, Option, Some, None, refl, ap, sym, ◌∙◌, subst, inl, inr}
use Rattle.fp_base.proofs.Bools.{or_left, or_right, and_left, and_right}
use Rattle.fp_grammar.specs.Grammar.{Grammar, Spells, SpellsMany, SpellsOptional, Among}
use Rattle.fp_grammar.specs.Sets.{disjoint, nullable, productive, first, extends, is_plain, alone, seconds, apart, is_predictive}
use Rattle.fp_grammar.specs.Grammar.Grammar.{token, one_of, seq, map, with_tokens, alt, optional, many, alternating, chain, separated, separated_tail, ref}
use Rattle.fp_grammar.proofs.Lists.{Among-left, Among-right, member-true, meets}
use Rattle.fp_grammar.proofs.GoodEither.{either_good}
use Rattle.fp_grammar.proofs.Seconds.{IsTold, seq_alone, seq_second, apart_never, apart_never_back}
use Rattle.fp_grammar.proofs.Good.{token_good, one_of_good, seq_good, map_good, with_tokens_good, optional_good}
use Rattle.fp_grammar.proofs.GoodLists.{many_good, separated_good, tail_good}
use Rattle.fp_grammar.proofs.GoodTurns.{IsSolid, alternating_good}
use Rattle.fp_grammar.proofs.GoodChain.{chain_good}

module _ {T X : Type 0} {kind : T → ℕ} (a b : Grammar T X) (ta : IsTold kind a) (tb : IsTold kind b) where
  alt_alone : (ks : List ℕ) (t : T) (x : X) → Spells kind a (t ∷ []) x ⊎ Spells kind b (t ∷ []) x → Among (kind t) ks → (alone ks a || alone ks b) ≡ true
  alt_alone ks t x (inl s) h = or_left (alone ks a) (alone ks b) (ta.alone_by ks t x s h)
  alt_alone ks t x (inr s) h = or_right (alone ks a) (alone ks b) (tb.alone_by ks t x s h)

  alt_second : (is_plain a && is_plain b) ≡ true → (ks : List ℕ) (t t2 : T) (w : List T) (x : X) → Spells kind a (t ∷ t2 ∷ w) x ⊎ Spells kind b (t ∷ t2 ∷ w) x → Among (kind t) ks → Among (kind t2) (seconds ks a ++ seconds ks b)
  alt_second p ks t t2 w x (inl s) h = Among-left (kind t2) (seconds ks a) (seconds ks b) (ta.second_by (and_left (is_plain a) _ p) ks t t2 w x s h)
  alt_second p ks t t2 w x (inr s) h = Among-right (kind t2) (seconds ks a) (seconds ks b) (tb.second_by (and_right (is_plain a) _ p) ks t t2 w x s h)

  alt_told : (not (nullable a) && (not (nullable b) && apart a b)) ≡ true → IsTold kind (alt a b)
  alt_told e =
      let na = and_left (not (nullable a)) _ e in
      let e3 = and_right (not (nullable a)) _ e in
      let nb = and_left (not (nullable b)) _ e3 in
      let p = and_right (not (nullable b)) _ e3 in
      record {
        good = either_good (Spells kind a) (Spells kind b) _ _ _ _ _ _ _ _ ta.good tb.good na nb (apart_never a b na ta tb p) (apart_never_back a b nb ta tb p);
        alone_by = alt_alone;
        second_by = alt_second;
      }

module _ {T X : Type 0} {kind : T → ℕ} (a : Grammar T X) (ta : IsTold kind a) where
  optional_alone : (ks : List ℕ) (t : T) (x : Option X) → SpellsOptional (Spells kind a) (t ∷ []) x → Among (kind t) ks → alone ks a ≡ true
  optional_alone ks t None s h = absurd (cc)
  optional_alone ks t (Some x) s h = ta.alone_by ks t x s h

  optional_second : is_plain a ≡ true → (ks : List ℕ) (t t2 : T) (w : List T) (x : Option X) → SpellsOptional (Spells kind a) (t ∷ t2 ∷ w) x → Among (kind t) ks → Among (kind t2) (seconds ks a)
  optional_second p ks t t2 w None s h = absurd (cc)
  optional_second p ks t t2 w (Some x) s h = ta.second_by p ks t t2 w x s h

  optional_told : not (nullable a) ≡ true → IsTold kind (optional a)
  optional_told e = record { good = optional_good (Spells kind a) _ _ _ _ ta.good e; alone_by = optional_alone; second_by = optional_second }

-- nothing is known of the first two tokens of lists and nonterminals
unseen : {T X : Type 0} (kind : T → ℕ) (g : Grammar T X) → ((ks : List ℕ) → alone ks g ≡ true) → (is_plain g ≡ true → ⊥) → IsGood kind (Spells kind g) (nullable g) (productive g) (first g) (extends g) → IsTold kind g
unseen kind g e f good = record { good = good; alone_by = λ ks t x s h. e ks; second_by = λ p. absurd (f p) }

pub told_of : {T X : Type 0} {kind : T → ℕ} (g : Grammar T X) → is_predictive g ≡ true → RefsGood kind g → IsTold kind g
told_of {kind = kind} (token k) e r = record {
  good = token_good k r;
  alone_by = λ ks t x s h. let f : t ≡ x = (let g = s.0 in cc) in member-true k ks (subst (λ j. Among j ks) (ap kind f ∙ s.1) h);
  second_by = λ p ks t t2 w x s h. let f = s.0 in absurd (cc);
}
told_of {kind = kind} (one_of js) e r = record {
  good = one_of_good js r;
  alone_by = λ ks t x s h. let f : t ≡ x = (let g = s.0 in cc) in meets (kind t) js ks (subst (λ v. Among (kind v) js) (sym f) s.1) h;
  second_by = λ p ks t t2 w x s h. let f = s.0 in absurd (cc);
}
told_of {kind = kind} (seq a b) e r =
    let ta = told_of a (and_left (is_predictive a) _ e) r.0 in
    let tb = told_of b (and_left (is_predictive b) _ (and_right (is_predictive a) _ e)) r.1 in
    record {
      good = seq_good (Spells kind a) (Spells kind b) _ _ _ _ _ _ _ _ ta.good tb.good (and_right (is_predictive b) _ (and_right (is_predictive a) _ e));
      alone_by = seq_alone a b ta tb;
      second_by = seq_second a b ta tb;
    }
told_of {kind = kind} (map f a) e r =
    let ta = told_of a e r in
    record {
      good = map_good f (Spells kind a) _ _ _ _ ta.good;
      alone_by = λ ks t x s h. ta.alone_by ks t s.0 s.2 h;
      second_by = λ p ks t t2 w x s h. ta.second_by p ks t t2 w s.0 s.2 h;
    }
told_of {kind = kind} (with_tokens a) e r =
    let ta = told_of a e r in
    record {
      good = with_tokens_good (Spells kind a) _ _ _ _ ta.good;
      alone_by = λ ks t x s h. ta.alone_by ks t x.1 s.1 h;
      second_by = λ p ks t t2 w x s h. ta.second_by p ks t t2 w x.1 s.1 h;
    }
told_of {kind = kind} (alt a b) e r = alt_told a b (told_of a (and_left (is_predictive a) _ e) r.0) (told_of b (and_left (is_predictive b) _ (and_right (is_predictive a) _ e)) r.1) (and_right (is_predictive b) _ (and_right (is_predictive a) _ e))
told_of {kind = kind} (optional a) e r = optional_told a (told_of a (and_left (is_predictive a) _ e) r) (and_right (is_predictive a) _ e)
told_of {kind = kind} (many a) e r =
    let e1 = and_right (is_predictive a) _ e in
    unseen kind (many a) (λ ks. refl) (λ p. cc) (many_good (Spells kind a) _ _ _ _ ((told_of a (and_left (is_predictive a) _ e) r).good) (and_left (not (nullable a)) _ e1) (and_right (not (nullable a)) _ e1))
told_of {kind = kind} (alternating a b) e r =
    let e1 = and_right (is_predictive a) _ e in
    let e2 = and_right (is_predictive b) _ e1 in
    let e3 = and_right (not (nullable a)) _ e2 in
    let e4 = and_right (not (nullable b)) _ e3 in
    let ga : IsSolid kind (Spells kind a) (nullable a) (productive a) (first a) (extends a) = record { good = (told_of a (and_left (is_predictive a) _ e) r.0).good; filled = and_left (not (nullable a)) _ e2 } in
    let gb : IsSolid kind (Spells kind b) (nullable b) (productive b) (first b) (extends b) = record { good = (told_of b (and_left (is_predictive b) _ e1) r.1).good; filled = and_left (not (nullable b)) _ e3 } in
    unseen kind (alternating a b) (λ ks. refl) (λ p. cc) (alternating_good (Spells kind a) (Spells kind b) _ _ _ _ _ _ _ _ ga gb (and_left (disjoint (extends a) (first b)) _ e4) (and_right (disjoint (extends a) (first b)) _ e4))
told_of {kind = kind} (chain a b allows build) e r =
    let e1 = and_right (is_predictive a) _ e in
    let e2 = and_left (is_predictive b && (not (nullable b) && disjoint (extends b) (first b))) _ e1 in
    let e3 = and_right (is_predictive b) _ e2 in
    let gb = many_good (Spells kind b) _ _ _ _ ((told_of b (and_left (is_predictive b) _ e2) r.1).good) (and_left (not (nullable b)) _ e3) (and_right (not (nullable b)) _ e3) in
    let ga = (told_of a (and_left (is_predictive a) _ e) r.0).good in
    unseen kind (chain a b allows build) (λ ks. refl) (λ p. cc) (chain_good (Spells kind a) (Spells kind b) allows build (seq_good (Spells kind a) (SpellsMany (Spells kind b)) _ _ _ _ _ _ _ _ ga gb (and_right (is_predictive b && (not (nullable b) && disjoint (extends b) (first b))) _ e1)) (λ f. ga.spelling (and_left (productive a) _ f)))
told_of {kind = kind} (separated a seps) e r =
    let e1 = and_right (is_predictive a) _ e in
    unseen kind (separated a seps) (λ ks. refl) (λ p. cc) (separated_good (Spells kind a) _ _ _ _ seps ((told_of a (and_left (is_predictive a) _ e) r).good) (and_left (not (nullable a)) _ e1) (and_right (not (nullable a)) _ e1))
told_of {kind = kind} (separated_tail a seps) e r =
    let e1 = and_right (is_predictive a) _ e in
    unseen kind (separated_tail a seps) (λ ks. refl) (λ p. cc) (tail_good (Spells kind a) _ _ _ _ seps ((told_of a (and_left (is_predictive a) _ e) r).good) (and_left (not (nullable a)) _ e1) (and_right (not (nullable a)) _ e1))
told_of {kind = kind} (ref n) e r = unseen kind (ref n) (λ ks. refl) (λ p. cc) (r)

pub good_of : {T X : Type 0} {kind : T → ℕ} (g : Grammar T X) → is_predictive g ≡ true → RefsGood kind g → IsGood kind (Spells kind g) (nullable g) (productive g) (first g) (extends g)
good_of g e r = (told_of g e r).good
