-- The rule that is broken by the token at a position, from how far reads of a file came.
use Rattle.std.proofs.Common.{◌≡◌, ℕ, ◌+◌, ◌<◌, ◌≤◌, ◌⊎◌, List, [], ◌∷◌, ◌++◌, length, take, drop, refl, sym, ◌∙◌, ap, subst, inl, inr, arith}
use Rattle.std.specs.Prelude.{Some, None, slice_get, Bool, true, false, ltb, MatchBool, Result, Ok, Err, IfOk}
use Rattle.std.proofs.lemmas.Bool.{lt-ltb, le-ltb}
use Rattle.fp_base.specs.declared.memory.NoMemory.{NoMemory}
use Rattle.std.proofs.lemmas.List.{take-append-drop, length-take-le}
use Rattle.std.proofs.lemmas.Option.{none-some, slice_get_within}
use Rattle.fp_base.specs.declared.place.Span.{Span}
use Rattle.fp_base.specs.declared.rule.Rule.{Rule}
use Rattle.fp_base.specs.declared.rule.Rule.TheVariants.{UnexpectedToken, NestingTooDeep, FormLeftOut}
use Rattle.fp_base.proofs.Lists.{drop_here, drop_past}
use Rattle.fp_lexer.specs.declared.token.Token.{Token}
use Rattle.fp_grammar.specs.Grammar.{Grammar}
use Rattle.fp_parse_defs.specs.Reading.{left_out, limit}
use Rattle.fp_parse_parts.specs.Files.{Probe, tried_at, ReachesTo, StartsMember, BeginsLeftOut, GoesTooDeep, BrokenRule}
use Rattle.fp_parse_parts.proofs.Reaching.{goes_on, ends_there}

-- a list before and behind the token at a position
cut_at : (tokens : List Token) (at : ℕ) (t : Token) → Some t ≡ slice_get tokens at → tokens ≡ take at tokens ++ t ∷ drop (at + 1) tokens
cut_at tokens at t e = sym (take-append-drop at tokens) ∙ ap (λ l. take at tokens ++ l) (drop_here tokens at t (sym e))

length_before : (tokens : List Token) (at : ℕ) (t : Token) → Some t ≡ slice_get tokens at → length (take at tokens) ≡ at
length_before tokens at t e = let h = slice_get_within tokens at t (sym e) in length-take-le at tokens (omega (arith, h))

pub when_true : (A B : Type 0) (b : Bool) → MatchBool b A B → b ≡ true → A
when_true A B true m e = m
when_true A B false m e = cc

pub when_false : (A B : Type 0) (b : Bool) → MatchBool b A B → b ≡ false → B
when_false A B false m e = m
when_false A B true m e = cc

module _ {X : Type 0} (g : ℕ → Grammar Token X) (probe : Probe) where
  pub rule_at_end : (tokens : List Token) (at : ℕ) → None ≡ slice_get tokens at → BrokenRule g probe (take at tokens) (drop at tokens) UnexpectedToken
  rule_at_end tokens at e = subst (λ l. BrokenRule g probe (take at tokens) l UnexpectedToken) (sym (drop_past tokens at (sym e))) refl

  rule_at : (tokens : List Token) (at : ℕ) (t : Token) (rule : Rule) → Some t ≡ slice_get tokens at → BrokenRule g probe (take at tokens) (t ∷ drop (at + 1) tokens) rule → BrokenRule g probe (take at tokens) (drop at tokens) rule
  rule_at tokens at t rule e b = subst (λ l. BrokenRule g probe (take at tokens) l rule) (sym (drop_here tokens at t (sym e))) b

  pub rule_deeper : (tokens : List Token) (at : ℕ) (t : Token) (to : ℕ) → Some t ≡ slice_get tokens at → ReachesTo (g (limit + 1)) tokens to → at < to → BrokenRule g probe (take at tokens) (drop at tokens) NestingTooDeep
  rule_deeper tokens at t to e r l =
      let h = length_before tokens at t e in
      rule_at tokens at t NestingTooDeep e (inl (goes_on (g (limit + 1)) tokens (take at tokens) t (drop (at + 1) tokens) to (cut_at tokens at t e) r (omega (arith, h, l)), refl))

  not_deeper : (tokens : List Token) (at : ℕ) (t : Token) (to : ℕ) → Some t ≡ slice_get tokens at → ReachesTo (g (limit + 1)) tokens to → to ≤ at → GoesTooDeep g (take at tokens) t → ⊥
  not_deeper tokens at t to e r l =
      let h = length_before tokens at t e in
      ends_there (g (limit + 1)) tokens (take at tokens) t (drop (at + 1) tokens) to (cut_at tokens at t e) r (omega (arith, h, l))

  pub rule_left_out : (tokens : List Token) (at : ℕ) (t : Token) (to : ℕ) → Some t ≡ slice_get tokens at → ReachesTo (g (limit + 1)) tokens to → to ≤ at → BeginsLeftOut g probe (take at tokens) t → BrokenRule g probe (take at tokens) (drop at tokens) FormLeftOut
  rule_left_out tokens at t to e r l b = rule_at tokens at t FormLeftOut e (inr (not_deeper tokens at t to e r l, inl (b, refl)))

  pub rule_plain : (tokens : List Token) (at : ℕ) (t : Token) (to : ℕ) → Some t ≡ slice_get tokens at → ReachesTo (g (limit + 1)) tokens to → to ≤ at → (BeginsLeftOut g probe (take at tokens) t → ⊥) → BrokenRule g probe (take at tokens) (drop at tokens) UnexpectedToken
  rule_plain tokens at t to e r l n = rule_at tokens at t UnexpectedToken e (inr (not_deeper tokens at t to e r l, inr (n, refl)))

module _ {X : Type 0} (g : ℕ → Grammar Token X) where
  -- the word that is tried was read in that place
  tried_read : (word : ℕ) (tokens tried : List Token) (at : ℕ) (place : Span) (to : ℕ) → at ≤ length tokens → tried ≡ take at tokens ++ tried_at word place ∷ [] → ReachesTo (g limit) tried to → at < to → StartsMember g word (take at tokens) place
  tried_read word tokens tried at place to w e r l =
      let h = length-take-le at tokens w in
      goes_on (g limit) tried (take at tokens) (tried_at word place) [] to e r (omega (arith, h, l))

  tried_unread : (word : ℕ) (tokens tried : List Token) (at : ℕ) (place : Span) (to : ℕ) → at ≤ length tokens → tried ≡ take at tokens ++ tried_at word place ∷ [] → ReachesTo (g limit) tried to → to ≤ at → StartsMember g word (take at tokens) place → ⊥
  tried_unread word tokens tried at place to w e r l =
      let h = length-take-le at tokens w in
      ends_there (g limit) tried (take at tokens) (tried_at word place) [] to e r (omega (arith, h, l))

  pub tried_told : (word : ℕ) (tokens tried : List Token) (at : ℕ) (place : Span) (to : ℕ) → at ≤ length tokens → tried ≡ take at tokens ++ tried_at word place ∷ [] → ReachesTo (g limit) tried to → MatchBool (ltb at to) (StartsMember g word (take at tokens) place) (StartsMember g word (take at tokens) place → ⊥)
  tried_told word tokens tried at place to w e r =
      elim (short at to) [
        | inl l ↦ subst (λ b. MatchBool b (StartsMember g word (take at tokens) place) (StartsMember g word (take at tokens) place → ⊥)) (sym (lt-ltb at to l)) (tried_read word tokens tried at place to w e r l)
        | inr l ↦ subst (λ b. MatchBool b (StartsMember g word (take at tokens) place) (StartsMember g word (take at tokens) place → ⊥)) (sym (le-ltb at to l)) (tried_unread word tokens tried at place to w e r l)
      ]
    where
      short : (r n : ℕ) → (r < n) ⊎ (n ≤ r)
      short r n = grind arith

  module _ (probe : Probe) where
    -- no word is tried: nothing that is left out begins
    pub begins_none : (before : List Token) (t : Token) → left_out t.what ≡ false → None ≡ probe t.what → BeginsLeftOut g probe before t → ⊥
    begins_none before t e f (inl h) = let i : true ≡ false = sym h ∙ e in cc
    begins_none before t e f (inr (word, h, s)) = none-some word (f ∙ h)

    -- a word is tried
    begins_there : (before : List Token) (t : Token) (word : ℕ) (b : Bool) → left_out t.what ≡ false → Some word ≡ probe t.what → MatchBool b (StartsMember g word before t.at) (StartsMember g word before t.at → ⊥) → MatchBool b (BeginsLeftOut g probe before t) (BeginsLeftOut g probe before t → ⊥)
    begins_there before t word true e f s = inr (word, sym f, s)
    begins_there before t word false e f s = λ h. only h
      where
        only : BeginsLeftOut g probe before t → ⊥
        only (inl h) = let i : true ≡ false = sym h ∙ e in cc
        only (inr (other, h, r)) = let same : Some word ≡ Some other = f ∙ h in let i : other ≡ word = cc in s (subst (λ n. StartsMember g n before t.at) i r)

    pub begins_handed : (before : List Token) (t : Token) (word : ℕ) (r : Result Bool NoMemory) → left_out t.what ≡ false → Some word ≡ probe t.what → IfOk r (λ b. MatchBool b (StartsMember g word before t.at) (StartsMember g word before t.at → ⊥)) → IfOk r (λ b. MatchBool b (BeginsLeftOut g probe before t) (BeginsLeftOut g probe before t → ⊥))
    begins_handed before t word (Ok b) e f i = begins_there before t word b e f i
    begins_handed before t word (Err n) e f i = i
