-- A choice of many by a look at the next tokens: what is left of it answers for the whole.
use Rattle.std.proofs.Common.{◌≡◌, ℕ, ◌+◌, ◌≤◌, Bool, true, false, not, ◌&&◌, Some, List, [], ◌∷◌, ◌⊎◌, drop, length, refl, sym, ◌∙◌, ap, subst, inl, inr, arith}
use Rattle.std.specs.Prelude.{cond, slice_get, Result, Ok, Err}
use Rattle.std.proofs.lemmas.Option.{slice_get_within}
use Rattle.fp_base.proofs.Bools.{never_true, and_left, and_right, or_cases}
use Rattle.fp_base.proofs.Lists.{drop_here}
use Rattle.fp_grammar.specs.declared.halt.Halt.{Halt}
use Rattle.fp_grammar.specs.declared.halt.Halt.TheVariants.{Unexpected, NoMemory}
use Rattle.fp_grammar.specs.Grammar.{Grammar, Spells, Among}
use Rattle.fp_grammar.specs.Grammar.Grammar.{token, one_of, seq, map, with_tokens, alt, optional, many, alternating, chain, separated, separated_tail, ref}
use Rattle.fp_grammar.specs.Sets.{nullable, productive, first, extends, disjoint, subset, is_plain, alone, seconds, is_predictive}
use Rattle.fp_grammar.specs.Promises.{IsGood, RefsGood, Fits}
use Rattle.fp_grammar.specs.Looks.{Look, Sees, rules_out, left, opens, begun}
use Rattle.fp_grammar.specs.Looks.Look.{one, other, with, without}
use Rattle.fp_grammar.specs.Parses.{Accepts, Refuses, Parses, NextAmong, IsStuck}
use Rattle.fp_grammar.proofs.Lists.{disjoint-apart, Among-subset}
use Rattle.fp_grammar.proofs.Tokens.{read_at}
use Rattle.fp_grammar.proofs.Fits.{told_of, good_of}
use Rattle.fp_grammar.proofs.Opens.{opens_one}
use Rattle.fp_grammar.proofs.Further.{Fails, fails_behind, first_further_accepts, first_further_refuses, second_further_accepts, second_further_refuses}

-- how far is read at least, where the look says what is there
abbrev pub least : Look → ℕ → ℕ
least (one ks) from = from
least (other ks) from = from
least (with ks js) from = from + 1
least (without ks js) from = from + 1

-- nothing of a goes on past what was looked at
record Out {T X : Type 0} (kind : T → ℕ) (look : Look) (a : Grammar T X) (tokens : List T) (from : ℕ) : Type 0 where
  at : ℕ
  low : at ≤ least look from
  fails : Fails kind a tokens from at

-- what the test for two tokens says of the parts of a choice
record Parts {T X : Type 0} (a b : Grammar T X) : Type 0 where
  predictive_a : is_predictive a ≡ true
  predictive_b : is_predictive b ≡ true
  not_a : not (nullable a) ≡ true
  not_b : not (nullable b) ≡ true

parts_of : {T X : Type 0} (a b : Grammar T X) → is_predictive (alt a b) ≡ true → Parts a b
parts_of a b e =
    let e1 = and_right (is_predictive a) _ e in
    let e2 = and_right (is_predictive b) _ e1 in
    record { predictive_a = and_left (is_predictive a) _ e; predictive_b = and_left (is_predictive b) _ e1; not_a = and_left (not (nullable a)) _ e2; not_b = and_left (not (nullable b)) _ (and_right (not (nullable a)) _ e2) }

-- a look at a token that begins a spelling: it was read
some_read : {T X : Type 0} (kind : T → ℕ) (g : Grammar T X) (ks : List ℕ) (tokens : List T) (from to : ℕ) → NextAmong kind ks tokens from → is_predictive g ≡ true → RefsGood kind g → opens ks g ≡ true → (w : List T) → to ≡ from + length w → IsStuck (Spells kind g) w (drop to tokens) → from + 1 ≤ to
some_read kind g ks tokens from to n predictive refs b (t ∷ w) e stuck = omega (arith, e)
some_read kind g ks tokens from to n predictive refs b [] e stuck =
    let o = opens_one kind g ks predictive refs b n.0 n.2 in
    let f : to ≡ from = omega (arith, e) in
    absurd (stuck n.0 (drop (from + 1) tokens) o.0 o.1 (ap (λ m. drop m tokens) f ∙ drop_here tokens from n.0 (sym n.1)) o.2)

module _ {T : Type 0} {kind : T → ℕ} where
  -- the first token is none that a begins with
  fails_first : {X : Type 0} (a : Grammar T X) (ks : List ℕ) (tokens : List T) (from : ℕ) → NextAmong kind ks tokens from → is_predictive a ≡ true → not (nullable a) ≡ true → RefsGood kind a → disjoint ks (first a) ≡ true → Fails kind a tokens from from
  fails_first {X = X} a ks tokens from n predictive not_null refs d = record {
    ends = record { w = []; place = omega arith; splits = refl; stuck = stuck };
    none = λ x s. never_true (nullable a) not_null (good.empty x s);
  }
    where
      good : IsGood kind (Spells kind a) (nullable a) (productive a) (first a) (extends a)
      good = good_of a predictive refs

      stuck : (t : T) (s more : List T) (x : X) → drop from tokens ≡ t ∷ s → Spells kind a (t ∷ more) x → ⊥
      stuck t s more x e i =
          let f : t ∷ s ≡ n.0 ∷ drop (from + 1) tokens = sym e ∙ drop_here tokens from n.0 (sym n.1) in
          let g : t ≡ n.0 = cc in
          disjoint-apart (kind n.0) ks (first a) d n.2 (subst (λ v. Among (kind v) (first a)) g (good.begin t more x i))

  -- the first token is none of those that a begins with
  fails_other : {X : Type 0} (a : Grammar T X) (ks : List ℕ) (tokens : List T) (from : ℕ) → (NextAmong kind ks tokens from → ⊥) → is_predictive a ≡ true → not (nullable a) ≡ true → RefsGood kind a → subset (first a) ks ≡ true → Fails kind a tokens from from
  fails_other {X = X} a ks tokens from n predictive not_null refs d = record {
    ends = record { w = []; place = omega arith; splits = refl; stuck = stuck };
    none = λ x s. never_true (nullable a) not_null (good.empty x s);
  }
    where
      good : IsGood kind (Spells kind a) (nullable a) (productive a) (first a) (extends a)
      good = good_of a predictive refs

      stuck : (t : T) (s more : List T) (x : X) → drop from tokens ≡ t ∷ s → Spells kind a (t ∷ more) x → ⊥
      stuck t s more x e i =
          let at = read_at tokens from t s e in
          n (t, sym at, Among-subset (kind t) (first a) ks d (good.begin t more x i), slice_get_within tokens from t at)

  -- the second is none that a goes on with
  fails_second : {X : Type 0} (a : Grammar T X) (ks : List ℕ) (tokens : List T) (from : ℕ) → NextAmong kind ks tokens from → is_predictive a ≡ true → RefsGood kind a → is_plain a ≡ true → not (alone ks a) ≡ true → ((t : T) → Some t ≡ slice_get tokens (from + 1) → Among (kind t) (seconds ks a) → ⊥) → Fails kind a tokens from (from + 1)
  fails_second {X = X} a ks tokens from n predictive refs plain not_alone unlike = record {
    ends = record { w = n.0 ∷ []; place = omega arith; splits = drop_here tokens from n.0 (sym n.1); stuck = stuck };
    none = λ x s. never_true (alone ks a) not_alone ((told_of a predictive refs).alone_by ks n.0 x s n.2);
  }
    where
      stuck : (t : T) (s more : List T) (x : X) → drop (from + 1) tokens ≡ t ∷ s → Spells kind a (n.0 ∷ t ∷ more) x → ⊥
      stuck t s more x e i = unlike t (sym (read_at tokens (from + 1) t s e)) ((told_of a predictive refs).second_by plain ks n.0 t more x i n.2)

  out_of : {X : Type 0} (look : Look) (a : Grammar T X) (tokens : List T) (from : ℕ) → Sees kind look tokens from → is_predictive a ≡ true → not (nullable a) ≡ true → RefsGood kind a → rules_out look a ≡ true → Out kind look a tokens from
  out_of (one ks) a tokens from n predictive not_null refs d = record { at = from; low = omega arith; fails = fails_first a ks tokens from n predictive not_null refs d }
  out_of (other ks) a tokens from n predictive not_null refs d = record { at = from; low = omega arith; fails = fails_other a ks tokens from n predictive not_null refs d }
  out_of (with ks js) a tokens from (n, m) predictive not_null refs d = go (or_cases (disjoint ks (first a)) _ d)
    where
      go : (disjoint ks (first a) ≡ true) ⊎ ((is_plain a && (not (alone ks a) && disjoint js (seconds ks a))) ≡ true) → Out kind (with ks js) a tokens from
      go (inl e) = record { at = from; low = omega arith; fails = fails_first a ks tokens from n predictive not_null refs e }
      go (inr e) =
          let e1 = and_right (is_plain a) _ e in
          record {
            at = from + 1;
            low = omega arith;
            fails = fails_second a ks tokens from n predictive refs (and_left (is_plain a) _ e) (and_left (not (alone ks a)) _ e1) (λ t f h.
                let g : m.0 ≡ t = let i = m.1 in cc in
                disjoint-apart (kind t) js (seconds ks a) (and_right (not (alone ks a)) _ e1) (subst (λ v. Among (kind v) js) g m.2) h);
          }
  out_of (without ks js) a tokens from (n, m) predictive not_null refs d = go (or_cases (disjoint ks (first a)) _ d)
    where
      go : (disjoint ks (first a) ≡ true) ⊎ ((is_plain a && (not (alone ks a) && subset (seconds ks a) js)) ≡ true) → Out kind (without ks js) a tokens from
      go (inl e) = record { at = from; low = omega arith; fails = fails_first a ks tokens from n predictive not_null refs e }
      go (inr e) =
          let e1 = and_right (is_plain a) _ e in
          record {
            at = from + 1;
            low = omega arith;
            fails = fails_second a ks tokens from n predictive refs (and_left (is_plain a) _ e) (and_left (not (alone ks a)) _ e1) (λ t f h.
                m (t, f, Among-subset (kind t) (seconds ks a) js (and_right (not (alone ks a)) _ e1) h, slice_get_within tokens (from + 1) t (sym f)));
          }

  -- what isn't empty takes a token at least
  takes : {X : Type 0} (look : Look) (a : Grammar T X) (tokens : List T) (from to : ℕ) (x : X) → is_predictive a ≡ true → not (nullable a) ≡ true → RefsGood kind a → Accepts kind a tokens from x to → least look from ≤ to
  takes look a tokens from to x predictive not_null refs p = by_look look (some p.w p.place p.spelled)
    where
      some : (w : List T) → to ≡ from + length w → Spells kind a w x → from + 1 ≤ to
      some [] e s = absurd (never_true (nullable a) not_null ((good_of a predictive refs).empty x s))
      some (t ∷ w) e s = omega (arith, e)

      by_look : (look : Look) → from + 1 ≤ to → least look from ≤ to
      by_look (one ks) l = omega (arith, l)
      by_look (other ks) l = omega (arith, l)
      by_look (with ks js) l = l
      by_look (without ks js) l = l

  -- and a refusal that the look's first token doesn't give
  far : {X : Type 0} (look : Look) (g : Grammar T X) (tokens : List T) (from to : ℕ) → Sees kind look tokens from → is_predictive g ≡ true → RefsGood kind g → begun look g ≡ true → Refuses kind g tokens from to → least look from ≤ to
  far (one ks) g tokens from to n predictive refs b p = omega (arith, p.place)
  far (other ks) g tokens from to n predictive refs b p = omega (arith, p.place)
  far {X = X} (with ks js) g tokens from to (n, m) predictive refs b p = some_read kind g ks tokens from to n predictive refs b p.w p.place p.stuck
  far {X = X} (without ks js) g tokens from to (n, m) predictive refs b p = some_read kind g ks tokens from to n predictive refs b p.w p.place p.stuck

  accepts_step : {X : Type 0} (look : Look) (a b : Grammar T X) (tokens : List T) (from to : ℕ) (x : X) → Sees kind look tokens from → is_predictive (alt a b) ≡ true → RefsGood kind (alt a b) → (Accepts kind (left look a) tokens from x to → Accepts kind a tokens from x to) → (Accepts kind (left look b) tokens from x to → Accepts kind b tokens from x to) → (r s : Bool) → rules_out look a ≡ r → rules_out look b ≡ s → Accepts kind (cond r (left look b) (cond s (left look a) (alt a b))) tokens from x to → Accepts kind (alt a b) tokens from x to
  accepts_step look a b tokens from to x sees predictive refs ra rb true s e f p =
      let t = parts_of a b predictive in
      let q = rb p in
      let o = out_of look a tokens from sees t.predictive_a t.not_a refs.0 e in
      second_further_accepts q (fails_behind q.w o.fails (omega (arith, o.low, takes look b tokens from to x t.predictive_b t.not_b refs.1 q)) q.place q.splits).stuck
  accepts_step look a b tokens from to x sees predictive refs ra rb false true e f p =
      let t = parts_of a b predictive in
      let q = ra p in
      let o = out_of look b tokens from sees t.predictive_b t.not_b refs.1 f in
      first_further_accepts q (fails_behind q.w o.fails (omega (arith, o.low, takes look a tokens from to x t.predictive_a t.not_a refs.0 q)) q.place q.splits).stuck
  accepts_step look a b tokens from to x sees predictive refs ra rb false false e f p = p

  pub chosen_accepts : {X : Type 0} (look : Look) (g : Grammar T X) (tokens : List T) (from to : ℕ) (x : X) → Sees kind look tokens from → is_predictive g ≡ true → RefsGood kind g → Accepts kind (left look g) tokens from x to → Accepts kind g tokens from x to
  chosen_accepts look (alt a b) tokens from to x sees predictive refs p =
      let t = parts_of a b predictive in
      accepts_step look a b tokens from to x sees predictive refs (λ q. chosen_accepts look a tokens from to x sees t.predictive_a refs.0 q) (λ q. chosen_accepts look b tokens from to x sees t.predictive_b refs.1 q) (rules_out look a) (rules_out look b) refl refl p
  chosen_accepts look (token k) tokens from to x sees predictive refs p = p
  chosen_accepts look (one_of ks) tokens from to x sees predictive refs p = p
  chosen_accepts look (seq a b) tokens from to x sees predictive refs p = p
  chosen_accepts look (map f a) tokens from to x sees predictive refs p = p
  chosen_accepts look (with_tokens a) tokens from to x sees predictive refs p = p
  chosen_accepts look (optional a) tokens from to x sees predictive refs p = p
  chosen_accepts look (many a) tokens from to x sees predictive refs p = p
  chosen_accepts look (alternating a b) tokens from to x sees predictive refs p = p
  chosen_accepts look (chain a b allows build) tokens from to x sees predictive refs p = p
  chosen_accepts look (separated a seps) tokens from to x sees predictive refs p = p
  chosen_accepts look (separated_tail a seps) tokens from to x sees predictive refs p = p
  chosen_accepts look (ref n) tokens from to x sees predictive refs p = p

  refuses_step : {X : Type 0} (look : Look) (a b : Grammar T X) (tokens : List T) (from to : ℕ) → Sees kind look tokens from → is_predictive (alt a b) ≡ true → RefsGood kind (alt a b) → (begun look (left look a) ≡ true → Refuses kind (left look a) tokens from to → Refuses kind a tokens from to × (least look from ≤ to)) → (begun look (left look b) ≡ true → Refuses kind (left look b) tokens from to → Refuses kind b tokens from to × (least look from ≤ to)) → (r s : Bool) → rules_out look a ≡ r → rules_out look b ≡ s → begun look (cond r (left look b) (cond s (left look a) (alt a b))) ≡ true → Refuses kind (cond r (left look b) (cond s (left look a) (alt a b))) tokens from to → Refuses kind (alt a b) tokens from to × (least look from ≤ to)
  refuses_step look a b tokens from to sees predictive refs ra rb true s e f h p =
      let t = parts_of a b predictive in
      let q = rb h p in
      let o = out_of look a tokens from sees t.predictive_a t.not_a refs.0 e in
      (second_further_refuses q.0 (fails_behind q.0.w o.fails (omega (arith, o.low, q.1)) q.0.place q.0.splits), q.1)
  refuses_step look a b tokens from to sees predictive refs ra rb false true e f h p =
      let t = parts_of a b predictive in
      let q = ra h p in
      let o = out_of look b tokens from sees t.predictive_b t.not_b refs.1 f in
      (first_further_refuses q.0 (fails_behind q.0.w o.fails (omega (arith, o.low, q.1)) q.0.place q.0.splits), q.1)
  refuses_step look a b tokens from to sees predictive refs ra rb false false e f h p = (p, far look (alt a b) tokens from to sees predictive refs h p)

  chosen_far : {X : Type 0} (look : Look) (g : Grammar T X) (tokens : List T) (from to : ℕ) → Sees kind look tokens from → is_predictive g ≡ true → RefsGood kind g → begun look (left look g) ≡ true → Refuses kind (left look g) tokens from to → Refuses kind g tokens from to × (least look from ≤ to)
  chosen_far look (alt a b) tokens from to sees predictive refs h p =
      let t = parts_of a b predictive in
      refuses_step look a b tokens from to sees predictive refs (λ h q. chosen_far look a tokens from to sees t.predictive_a refs.0 h q) (λ h q. chosen_far look b tokens from to sees t.predictive_b refs.1 h q) (rules_out look a) (rules_out look b) refl refl h p
  chosen_far look (token k) tokens from to sees predictive refs h p = (p, far look (token k) tokens from to sees predictive refs h p)
  chosen_far look (one_of ks) tokens from to sees predictive refs h p = (p, far look (one_of ks) tokens from to sees predictive refs h p)
  chosen_far look (seq a b) tokens from to sees predictive refs h p = (p, far look (seq a b) tokens from to sees predictive refs h p)
  chosen_far look (map f a) tokens from to sees predictive refs h p = (p, far look (map f a) tokens from to sees predictive refs h p)
  chosen_far look (with_tokens a) tokens from to sees predictive refs h p = (p, far look (with_tokens a) tokens from to sees predictive refs h p)
  chosen_far look (optional a) tokens from to sees predictive refs h p = (p, far look (optional a) tokens from to sees predictive refs h p)
  chosen_far look (many a) tokens from to sees predictive refs h p = (p, far look (many a) tokens from to sees predictive refs h p)
  chosen_far look (alternating a b) tokens from to sees predictive refs h p = (p, far look (alternating a b) tokens from to sees predictive refs h p)
  chosen_far look (chain a b allows build) tokens from to sees predictive refs h p = (p, far look (chain a b allows build) tokens from to sees predictive refs h p)
  chosen_far look (separated a seps) tokens from to sees predictive refs h p = (p, far look (separated a seps) tokens from to sees predictive refs h p)
  chosen_far look (separated_tail a seps) tokens from to sees predictive refs h p = (p, far look (separated_tail a seps) tokens from to sees predictive refs h p)
  chosen_far look (ref n) tokens from to sees predictive refs h p = (p, far look (ref n) tokens from to sees predictive refs h p)

  pub chosen_refuses : {X : Type 0} (look : Look) (g : Grammar T X) (tokens : List T) (from to : ℕ) → Sees kind look tokens from → is_predictive g ≡ true → RefsGood kind g → begun look (left look g) ≡ true → Refuses kind (left look g) tokens from to → Refuses kind g tokens from to
  chosen_refuses look g tokens from to sees predictive refs h p = (chosen_far look g tokens from to sees predictive refs h p).0

  -- what is left of a choice after a look answers for the choice
  pub chosen : {X : Type 0} (look : Look) (g : Grammar T X) (tokens : List T) (from : ℕ) (r : Result (X × ℕ) Halt) → Sees kind look tokens from → Fits kind g → begun look (left look g) ≡ true → Parses kind (left look g) tokens from r → Parses kind g tokens from r
  chosen look g tokens from (Ok q) sees fits h p = chosen_accepts look g tokens from q.1 q.0 sees fits.predictive fits.refs p
  chosen look g tokens from (Err (Unexpected to)) sees fits h p = chosen_refuses look g tokens from to sees fits.predictive fits.refs h p
  chosen look g tokens from (Err NoMemory) sees fits h p = tt

  -- a token that begins nothing is refused where it stands
  pub none_begins : {X : Type 0} (g : Grammar T X) {tokens : List T} {from : ℕ} → (NextAmong kind (first g) tokens from → ⊥) → not (nullable g) ≡ true → Fits kind g → Refuses kind g tokens from from
  none_begins {X = X} g {tokens = tokens} {from = from} n not_null fits = record {
    w = [];
    place = omega arith;
    splits = refl;
    viable = inl refl;
    none = λ x s. never_true (nullable g) not_null ((good_of g fits.predictive fits.refs).empty x s);
    stuck = stuck;
  }
    where
      stuck : (t : T) (s more : List T) (x : X) → drop from tokens ≡ t ∷ s → Spells kind g (t ∷ more) x → ⊥
      stuck t s more x e i =
          let at = read_at tokens from t s e in
          n (t, sym at, (good_of g fits.predictive fits.refs).begin t more x i, slice_get_within tokens from t at)
