-- At each position of each token list a grammar has an answer: it accepts a node, or it refuses a token.
use Rattle.std.proofs.Common.{◌≡◌, ℕ, zero, suc, ◌+◌, ◌<◌, Bool, true, false, not, ◌&&◌, Option, Some, None, List, [], ◌∷◌, ◌++◌, ◌⊎◌, drop, length, refl, sym, ◌∙◌, ap, subst, inl, inr, arith, length-append, length-drop}
use Rattle.std.specs.Prelude.{slice_get}
use Rattle.std.proofs.lemmas.Option.{slice_get_within}
use Rattle.std.proofs.lemmas.Bool.{cases_eq}
use Rattle.fp_base.proofs.Bools.{never_true, and_left, and_right}
use Rattle.fp_grammar.specs.Grammar.{Grammar, Spells, Among}
use Rattle.fp_grammar.specs.Grammar.Grammar.{token, one_of, seq, map, with_tokens, alt, optional, many, alternating, chain, separated, separated_tail, ref}
use Rattle.fp_grammar.specs.Sets.{is_predictive, nullable, first, extends, disjoint, member}
use Rattle.fp_grammar.specs.Promises.{RefsGood, Fits}
use Rattle.fp_grammar.specs.Decided.{Answer, RefsDecided}
use Rattle.fp_grammar.specs.Decided.Answer.{accepted, refused}
use Rattle.fp_grammar.specs.Parses.{Accepts, Refuses, NextAmong}
use Rattle.fp_grammar.proofs.Lists.{member-true, Among-from_member}
use Rattle.fp_grammar.proofs.Fits.{good_of}
use Rattle.fp_grammar.proofs.Walk.{Reached, begin, next, done, stop, first_refused}
use Rattle.fp_grammar.proofs.Steps.{absent, map_accepts, map_refuses, with_tokens_accepts, with_tokens_refuses, optional_absent, optional_accepts, optional_refuses, token_accepts, token_refuses, one_of_accepts, one_of_refuses}
use Rattle.fp_grammar.proofs.ListSteps.{many_next, many_absent, many_refuses, separated_next, separated_absent, separated_refuses, tail_next, tail_absent}
use Rattle.fp_grammar.proofs.TurnSteps.{turn_next, turn_absent, turn_refuses, turned_fits}
use Rattle.fp_grammar.proofs.ChainSteps.{Building, chain_begin, chain_first_refused, chain_next, chain_done, chain_full, chain_stop}
use Rattle.fp_grammar.proofs.Further.{either_answer}

among_at : {T : Type 0} (kind : T → ℕ) (ks : List ℕ) (tokens : List T) (at : ℕ) (t : T) → Some t ≡ slice_get tokens at → (b : Bool) → b ≡ member (kind t) ks → NextAmong kind ks tokens at ⊎ (NextAmong kind ks tokens at → ⊥)
among_at kind ks tokens at t e true f = inl (t, e, Among-from_member (kind t) ks (sym f), slice_get_within tokens at t (sym e))
among_at kind ks tokens at t e false f = inr (λ (s, g, m, _). let i : s ≡ t = cc in let h = member-true (kind t) ks (subst (λ v. Among (kind v) ks) i m) in cc)

among_of : {T : Type 0} (kind : T → ℕ) (ks : List ℕ) (tokens : List T) (at : ℕ) (o : Option T) → o ≡ slice_get tokens at → NextAmong kind ks tokens at ⊎ (NextAmong kind ks tokens at → ⊥)
among_of kind ks tokens at None e = inr (λ (s, g, _, _). cc)
among_of kind ks tokens at (Some t) e = among_at kind ks tokens at t e (member (kind t) ks) refl

next_among : {T : Type 0} (kind : T → ℕ) (ks : List ℕ) (tokens : List T) (at : ℕ) → NextAmong kind ks tokens at ⊎ (NextAmong kind ks tokens at → ⊥)
next_among kind ks tokens at = among_of kind ks tokens at (slice_get tokens at) refl

module _ {T : Type 0} {kind : T → ℕ} where
  token_answer_at : (k : ℕ) (tokens : List T) (from : ℕ) (o : Option T) → o ≡ slice_get tokens from → Answer kind (token k) tokens from
  token_answer_at k tokens from None e = refused from (token_refuses k tokens from (λ t f g. cc))
  token_answer_at k tokens from (Some t) e =
      elim (cases_eq (kind t) k) [
        | inl f ↦ accepted t (from + 1) (token_accepts k t tokens from e f)
        | inr f ↦ refused from (token_refuses k tokens from (λ s g h. let i : s ≡ t = cc in f (ap kind (sym i) ∙ h)))
      ]

  one_of_answer : (ks : List ℕ) (tokens : List T) (from : ℕ) → Answer kind (one_of ks) tokens from
  one_of_answer ks tokens from =
      elim (next_among kind ks tokens from) [
        | inl n ↦ accepted n.0 (from + 1) (one_of_accepts ks n.0 tokens from n.1 n.2)
        | inr n ↦ refused from (one_of_refuses ks tokens from (λ t e m. n (t, e, m, slice_get_within tokens from t (sym e))))
      ]

  -- what isn't nullable takes tokens
  reads : {X : Type 0} {a : Grammar T X} {tokens : List T} {mid to : ℕ} {x : X} → is_predictive a ≡ true → not (nullable a) ≡ true → RefsGood kind a → Accepts kind a tokens mid x to → length (drop to tokens) < length (drop mid tokens)
  reads {X = X} {a = a} {tokens = tokens} {mid = mid} {to = to} {x = x} predictive not_null refs p = go p.w p.splits p.spelled
    where
      go : (w : List T) → drop mid tokens ≡ w ++ drop to tokens → Spells kind a w x → length (drop to tokens) < length (drop mid tokens)
      go [] e s = absurd (never_true (nullable a) not_null ((good_of a predictive refs).empty x s))
      go (t ∷ w) e s = omega (arith, ap length e, length-append (t ∷ w) (drop to tokens))

  seq_rest : {X Y : Type 0} (a : Grammar T X) (b : Grammar T Y) (tokens : List T) (from : ℕ) → Fits kind (seq a b) → (x : X) (mid : ℕ) → Accepts kind a tokens from x mid → Answer kind b tokens mid → Answer kind (seq a b) tokens from
  seq_rest a b tokens from fits x mid p (accepted y to q) = accepted (x, y) to (done (next (begin tokens from fits) p) q)
  seq_rest a b tokens from fits x mid p (refused to q) = refused to (stop (next (begin tokens from fits) p) q)

  seq_answer : {X Y : Type 0} (a : Grammar T X) (b : Grammar T Y) (tokens : List T) (from : ℕ) → Fits kind (seq a b) → Answer kind a tokens from → ((mid : ℕ) → Answer kind b tokens mid) → Answer kind (seq a b) tokens from
  seq_answer a b tokens from fits (accepted x mid p) f = seq_rest a b tokens from fits x mid p (f mid)
  seq_answer a b tokens from fits (refused to p) f = refused to (first_refused fits p)

  map_answer : {X Y : Type 0} (f : X → Y) (a : Grammar T X) (tokens : List T) (from : ℕ) → Answer kind a tokens from → Answer kind (map f a) tokens from
  map_answer f a tokens from (accepted x to p) = accepted (f x) to (map_accepts p)
  map_answer f a tokens from (refused to p) = refused to (map_refuses p)

  with_tokens_answer : {X : Type 0} (a : Grammar T X) (tokens : List T) (from : ℕ) → Answer kind a tokens from → Answer kind (with_tokens a) tokens from
  with_tokens_answer a tokens from (accepted x to p) = accepted _ to (with_tokens_accepts p)
  with_tokens_answer a tokens from (refused to p) = refused to (with_tokens_refuses p)

  optional_answer : {X : Type 0} (a : Grammar T X) (tokens : List T) (from : ℕ) → Answer kind a tokens from → Answer kind (optional a) tokens from
  optional_answer a tokens from (accepted x to p) = accepted (Some x) to (optional_accepts p)
  optional_answer a tokens from (refused to p) =
      elim (cases_eq from to) [
        | inl e ↦ accepted None from (optional_absent (absent (subst (λ n. Refuses kind a tokens from n) (sym e) p)))
        | inr e ↦ refused to (optional_refuses e p)
      ]

  -- more of several, with as many steps at most as tokens are left
  many_step : {A X : Type 0} {g : Grammar T X} (a : Grammar T A) (tokens : List T) (from mid : ℕ) (k : List A → X) → Fits kind (many a) → Reached kind g (many a) k tokens from mid → ((k' : List A → X) (to : ℕ) → length (drop to tokens) < length (drop mid tokens) → Reached kind g (many a) k' tokens from to → Answer kind g tokens from) → Answer kind a tokens mid → Answer kind g tokens from
  many_step a tokens from mid k fits r more (accepted x to p) =
      let e = and_right (is_predictive a) _ fits.predictive in
      more (λ xs. k (x ∷ xs)) to (reads (and_left (is_predictive a) _ fits.predictive) (and_left (not (nullable a)) _ e) fits.refs p) (many_next r p)
  many_step a tokens from mid k fits r more (refused to p) =
      let e = and_right (is_predictive a) _ fits.predictive in
      elim (cases_eq mid to) [
        | inl f ↦ accepted (k []) mid (done r (many_absent (and_left (not (nullable a)) _ e) (and_left (is_predictive a) _ fits.predictive) fits.refs (absent (subst (λ n. Refuses kind a tokens mid n) (sym f) p))))
        | inr f ↦ refused to (stop r (many_refuses fits f p))
      ]

  many_from : {A X : Type 0} {g : Grammar T X} (fuel : ℕ) (a : Grammar T A) (tokens : List T) (from mid : ℕ) (k : List A → X) → Fits kind (many a) → ((at : ℕ) → Answer kind a tokens at) → length (drop mid tokens) < fuel → Reached kind g (many a) k tokens from mid → Answer kind g tokens from
  many_from zero a tokens from mid k fits f l r = absurd (omega (arith, l))
  many_from (suc fuel) a tokens from mid k fits f l r = many_step a tokens from mid k fits r (λ k' to e r'. many_from fuel a tokens from to k' fits f (omega (arith, e, l)) r') (f mid)

  -- more of the one and the other, with as many steps at most as tokens are left
  turn_step : {A X : Type 0} {g : Grammar T X} (a b : Grammar T A) (tokens : List T) (from mid : ℕ) (k : List A → X) → Fits kind (alternating a b) → Reached kind g (alternating a b) k tokens from mid → ((k' : List A → X) (to : ℕ) → length (drop to tokens) < length (drop mid tokens) → Reached kind g (alternating b a) k' tokens from to → Answer kind g tokens from) → Answer kind a tokens mid → Answer kind g tokens from
  turn_step a b tokens from mid k fits r more (accepted x to p) =
      let e1 = and_right (is_predictive a) _ fits.predictive in
      let e2 = and_right (is_predictive b) _ e1 in
      more (λ xs. k (x ∷ xs)) to (reads (and_left (is_predictive a) _ fits.predictive) (and_left (not (nullable a)) _ e2) fits.refs.0 p) (turn_next r p)
  turn_step a b tokens from mid k fits r more (refused to p) =
      elim (cases_eq mid to) [
        | inl f ↦ accepted (k []) mid (done r (turn_absent fits (absent (subst (λ n. Refuses kind a tokens mid n) (sym f) p))))
        | inr f ↦ refused to (stop r (turn_refuses fits f p))
      ]

  turns_from : {A X : Type 0} {g : Grammar T X} (fuel : ℕ) (a b : Grammar T A) (tokens : List T) (from mid : ℕ) (k : List A → X) → Fits kind (alternating a b) → ((at : ℕ) → Answer kind a tokens at) → ((at : ℕ) → Answer kind b tokens at) → length (drop mid tokens) < fuel → Reached kind g (alternating a b) k tokens from mid → Answer kind g tokens from
  turns_from zero a b tokens from mid k fits f h l r = absurd (omega (arith, l))
  turns_from (suc fuel) a b tokens from mid k fits f h l r = turn_step a b tokens from mid k fits r (λ k' to e r'. turns_from fuel b a tokens from to k' (turned_fits a b fits) h f (omega (arith, e, l)) r') (f mid)

  chain_step : {X Y : Type 0} (a : Grammar T X) (b : Grammar T Y) (allows : X → Bool) (build : X → Y → X) (tokens : List T) (from mid : ℕ) (sum : X) (ok : Bool) → ok ≡ allows sum → Fits kind (many b) → Building kind a b allows build tokens from sum mid → ((sum : X) (to : ℕ) → length (drop to tokens) < length (drop mid tokens) → Building kind a b allows build tokens from sum to → Answer kind (chain a b allows build) tokens from) → Answer kind b tokens mid → Answer kind (chain a b allows build) tokens from
  chain_step a b allows build tokens from mid sum false e fits r more p = accepted sum mid (chain_full r (sym e))
  chain_step a b allows build tokens from mid sum true e fits r more (accepted z to p) =
      let f = and_right (is_predictive b) _ fits.predictive in
      more (build sum z) to (reads (and_left (is_predictive b) _ fits.predictive) (and_left (not (nullable b)) _ f) fits.refs p) (chain_next r (sym e) p)
  chain_step a b allows build tokens from mid sum true e fits r more (refused to p) =
      elim (cases_eq mid to) [
        | inl f ↦ accepted sum mid (chain_done r (absent (subst (λ n. Refuses kind b tokens mid n) (sym f) p)))
        | inr f ↦ refused to (chain_stop r (sym e) f p)
      ]

  chain_from : {X Y : Type 0} (fuel : ℕ) (a : Grammar T X) (b : Grammar T Y) (allows : X → Bool) (build : X → Y → X) (tokens : List T) (from mid : ℕ) (sum : X) → Fits kind (many b) → ((at : ℕ) → Answer kind b tokens at) → length (drop mid tokens) < fuel → Building kind a b allows build tokens from sum mid → Answer kind (chain a b allows build) tokens from
  chain_from zero a b allows build tokens from mid sum fits f l r = absurd (omega (arith, l))
  chain_from (suc fuel) a b allows build tokens from mid sum fits f l r = chain_step a b allows build tokens from mid sum (allows sum) refl fits r (λ sum' to e r'. chain_from fuel a b allows build tokens from to sum' fits f (omega (arith, e, l)) r') (f mid)

  chain_answer : {X Y : Type 0} (a : Grammar T X) (b : Grammar T Y) (allows : X → Bool) (build : X → Y → X) (tokens : List T) (from : ℕ) → Fits kind (chain a b allows build) → Answer kind a tokens from → ((at : ℕ) → Answer kind b tokens at) → Answer kind (chain a b allows build) tokens from
  chain_answer a b allows build tokens from fits (accepted x mid p) f =
      let r = chain_begin fits p in
      chain_from (length (drop mid tokens) + 1) a b allows build tokens from mid x r.reached.fits f (omega arith) r
  chain_answer a b allows build tokens from fits (refused to p) f = refused to (chain_first_refused fits p)

  -- after an element: a separator and more, or the end
  tail_step : {A X : Type 0} {g : Grammar T X} (a : Grammar T A) (seps : List ℕ) (tokens : List T) (from mid : ℕ) (k : List A → X) → Reached kind g (separated_tail a seps) k tokens from mid → (Reached kind g (separated a seps) k tokens from (mid + 1) → Answer kind g tokens from) → Answer kind g tokens from
  tail_step a seps tokens from mid k r more =
      elim (next_among kind seps tokens mid) [
        | inl n ↦ more (tail_next r n.1 n.2)
        | inr n ↦ accepted (k []) mid (done r (tail_absent (λ t e m. n (t, e, m, slice_get_within tokens mid t (sym e)))))
      ]

  separated_step : {A X : Type 0} {g : Grammar T X} (a : Grammar T A) (seps : List ℕ) (tokens : List T) (from mid : ℕ) (k : List A → X) → Fits kind (separated a seps) → Reached kind g (separated a seps) k tokens from mid → ((k' : List A → X) (to : ℕ) → length (drop to tokens) < length (drop mid tokens) → Reached kind g (separated a seps) k' tokens from to → Answer kind g tokens from) → Answer kind a tokens mid → Answer kind g tokens from
  separated_step a seps tokens from mid k fits r more (accepted x to p) =
      let e = and_right (is_predictive a) _ fits.predictive in
      let l = reads (and_left (is_predictive a) _ fits.predictive) (and_left (not (nullable a)) _ e) fits.refs p in
      tail_step a seps tokens from to (λ xs. k (x ∷ xs)) (separated_next r p) (λ r'. more (λ xs. k (x ∷ xs)) (to + 1) (omega (arith, l, length-drop (to + 1) tokens, length-drop to tokens)) r')
  separated_step a seps tokens from mid k fits r more (refused to p) =
      elim (cases_eq mid to) [
        | inl f ↦ accepted (k []) mid (done r (separated_absent fits (absent (subst (λ n. Refuses kind a tokens mid n) (sym f) p))))
        | inr f ↦ refused to (stop r (separated_refuses fits f p))
      ]

  separated_from : {A X : Type 0} {g : Grammar T X} (fuel : ℕ) (a : Grammar T A) (seps : List ℕ) (tokens : List T) (from mid : ℕ) (k : List A → X) → Fits kind (separated a seps) → ((at : ℕ) → Answer kind a tokens at) → length (drop mid tokens) < fuel → Reached kind g (separated a seps) k tokens from mid → Answer kind g tokens from
  separated_from zero a seps tokens from mid k fits f l r = absurd (omega (arith, l))
  separated_from (suc fuel) a seps tokens from mid k fits f l r = separated_step a seps tokens from mid k fits r (λ k' to e r'. separated_from fuel a seps tokens from to k' fits f (omega (arith, e, l)) r') (f mid)

  pub answer_of : {X : Type 0} (g : Grammar T X) → is_predictive g ≡ true → RefsGood kind g → RefsDecided kind g → (tokens : List T) (from : ℕ) → Answer kind g tokens from
  answer_of (token k) predictive refs d tokens from = token_answer_at k tokens from (slice_get tokens from) refl
  answer_of (one_of ks) predictive refs d tokens from = one_of_answer ks tokens from
  answer_of (seq a b) predictive refs d tokens from =
      let fits : Fits kind (seq a b) = record { predictive = predictive; some = d.0; refs = refs } in
      seq_answer a b tokens from fits (answer_of a (and_left (is_predictive a) _ predictive) refs.0 d.1 tokens from) (λ mid. answer_of b (and_left (is_predictive b) _ (and_right (is_predictive a) _ predictive)) refs.1 d.2 tokens mid)
  answer_of (map f a) predictive refs d tokens from = map_answer f a tokens from (answer_of a predictive refs d tokens from)
  answer_of (with_tokens a) predictive refs d tokens from = with_tokens_answer a tokens from (answer_of a predictive refs d tokens from)
  answer_of (alt a b) predictive refs d tokens from =
      either_answer a b tokens from (answer_of a (and_left (is_predictive a) _ predictive) refs.0 d.0 tokens from) (answer_of b (and_left (is_predictive b) _ (and_right (is_predictive a) _ predictive)) refs.1 d.1 tokens from)
  answer_of (optional a) predictive refs d tokens from = optional_answer a tokens from (answer_of a (and_left (is_predictive a) _ predictive) refs d tokens from)
  answer_of (many a) predictive refs d tokens from =
      let fits : Fits kind (many a) = record { predictive = predictive; some = refl; refs = refs } in
      many_from (length (drop from tokens) + 1) a tokens from from (λ xs. xs) fits (λ at. answer_of a (and_left (is_predictive a) _ predictive) refs d tokens at) (omega arith) (begin tokens from fits)
  answer_of (alternating a b) predictive refs d tokens from =
      let fits : Fits kind (alternating a b) = record { predictive = predictive; some = refl; refs = refs } in
      turns_from (length (drop from tokens) + 1) a b tokens from from (λ xs. xs) fits (λ at. answer_of a (and_left (is_predictive a) _ predictive) refs.0 d.0 tokens at) (λ at. answer_of b (and_left (is_predictive b) _ (and_right (is_predictive a) _ predictive)) refs.1 d.1 tokens at) (omega arith) (begin tokens from fits)
  answer_of (chain a b allows build) predictive refs d tokens from =
      let fits : Fits kind (chain a b allows build) = record { predictive = predictive; some = d.0; refs = refs } in
      let e1 = and_left (is_predictive b && (not (nullable b) && disjoint (extends b) (first b))) _ (and_right (is_predictive a) _ predictive) in
      chain_answer a b allows build tokens from fits (answer_of a (and_left (is_predictive a) _ predictive) refs.0 d.1 tokens from) (λ at. answer_of b (and_left (is_predictive b) _ e1) refs.1 d.2 tokens at)
  answer_of (separated a seps) predictive refs d tokens from =
      let fits : Fits kind (separated a seps) = record { predictive = predictive; some = refl; refs = refs } in
      separated_from (length (drop from tokens) + 1) a seps tokens from from (λ xs. xs) fits (λ at. answer_of a (and_left (is_predictive a) _ predictive) refs d tokens at) (omega arith) (begin tokens from fits)
  answer_of (separated_tail a seps) predictive refs d tokens from =
      let fits : Fits kind (separated_tail a seps) = record { predictive = predictive; some = refl; refs = refs } in
      tail_step a seps tokens from from (λ xs. xs) (begin tokens from fits) (λ r. separated_from (length (drop (from + 1) tokens) + 1) a seps tokens from (from + 1) (λ xs. xs) (record { predictive = predictive; some = refl; refs = refs }) (λ at. answer_of a (and_left (is_predictive a) _ predictive) refs d tokens at) (omega arith) r)
  answer_of (ref n) predictive refs d tokens from = d tokens from
