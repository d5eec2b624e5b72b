-- What is found in the text of a file, and what stands behind the files that were read.
use Rattle.std.proofs.Common.{◌≡◌, ℕ, List, [], ◌∷◌, ◌++◌, Bool, true, false, cond, MatchBool, Option, Some, None, refl, inl, inr, sym, ap, subst, ◌∙◌}
use Rattle.std.specs.Prelude.{Contains}
use Rattle.std.proofs.lemmas.List.Elements.{Contains-append_left, Contains-push, Contains-push_cases}
use Rattle.fp_base.specs.Places.{place_at}
use Rattle.fp_base.specs.declared.place.Place.{Place}
use Rattle.fp_base.specs.declared.refusal.Refusal.{Refusal}
use Rattle.fp_base.specs.declared.rule.Rule.{Rule}
use Rattle.fp_base.specs.declared.rule.Rule.TheVariants.{TextTooLong}
use Rattle.fp_lexer.proofs.Unique.{one_lexing}
use Rattle.fp_lexer.specs.Broken.{BreaksTokens, IsFirstBroken, NotBehind, IsUnbroken as IsWhole}
use Rattle.fp_lexer.specs.Tokens.{Lexed}
use Rattle.fp_lexer.specs.declared.token.Token.{Token}
use Rattle.fp_base.specs.Least.{broken_at, Either, IsLeast, NoLater, lesser_of, no_later}
use Rattle.fp_base.proofs.Calculus.{least_none, least_only, least_one, least_same, least_either, least_flag, none_broken}
use Rattle.fp_parse_parts.specs.Units.{SpellsInside, BreaksInside, StopsInside}
use Rattle.fp_parse_parts.specs.declared.parsing.Inside.{Inside}
use Rattle.fp_parse_parts.specs.declared.parsing.Inside.TheVariants as inside
use Rattle.fp_base.specs.declared.refusal.Stop.TheVariants as stop
use Rattle.fp_parse_parts.specs.declared.parsing.Members.{Members}
use Rattle.fp_gather.specs.gathering.Answers.{IsFound}
use Rattle.fp_gather.specs.gathering.Gathered.{InFiles}
use Rattle.fp_gather.specs.gathering.Reading.{Reading, BreaksText, BreaksTokenRule, HasTokens, Passes, nothing_in}
use Rattle.fp_gather.specs.gathering.Walks.{Walked, with_reading}

no_later_of : (number : ℕ) (text : List ℕ) (f g : Refusal) → BreaksTokens number text f.rule f.place → BreaksTokens number text g.rule g.place → NotBehind f.rule f.place g.rule g.place → NoLater f g
no_later_of number text f g p q n =
    let same : f.place.file ≡ g.place.file = ap (λ (x : Place). x.file) p.1 ∙ sym (ap (λ (x : Place). x.file) q.1) in
    elim n [
      | inl c ↦ elim c [ inl l ↦ inr (same, inl l) | inr l ↦ inr (same, inr (l.0, inl l.1)) ]
      | inr l ↦ inr (same, inr (l.0, inr (l.1, l.2)))
    ]

text_least : (r : Reading) (f : Refusal) → f.other ≡ None → IsFirstBroken r.number r.text f.rule f.place → IsLeast (BreaksText r) (Some f)
text_least r f o first =
    record {
      holds = λ g e. let same : f ≡ g = cc in subst (λ (x : Refusal). BreaksText r x) same (o, first.broken);
      least = λ g q. no_later_of r.number r.text f g first.broken q.1 (first.least g.rule g.place q.1);
    }

text_none : (r : Reading) → IsWhole r.number r.text → IsLeast (BreaksText r) None
text_none r whole = least_none (λ f p. whole f.rule f.place p.1)

limit_of : (r : Reading) → Refusal
limit_of r = broken_at TextTooLong (place_at r.number r.text 0)

-- with the limit on all files
tokens_least : (r : Reading) (passes : Bool) (own : Option Refusal) → MatchBool passes (Passes r) (Passes r → ⊥) → IsLeast (BreaksText r) own
    → IsLeast (BreaksTokenRule r) (lesser_of own (cond passes (Some (broken_at TextTooLong (place_at r.number r.text 0))) None))
tokens_least r passes own p l = least_either own _ l (least_flag (Passes r) passes (broken_at TextTooLong (place_at r.number r.text 0)) p)

-- where a rule of tokens is broken
found_broken : (r : Reading) (within : Inside) (tokens : Option Refusal) (f : Refusal) → r.inside ≡ within → tokens ≡ Some f → IsLeast (BreaksTokenRule r) tokens
    → IsFound r (record { given = nothing_in within; tokens = tokens; grammar = None })
found_broken r within tokens f ei e l = record {
  tokens = l;
  grammar = least_none (λ g q. q.1.unbroken f (l.holds f e));
  gives = inr ((f, inl (l.holds f e)), ap nothing_in (sym ei));
}

some_lesser : (f : Refusal) (o : Option Refusal) → (h : Refusal) × (lesser_of (Some f) o ≡ Some h)
some_lesser f None = (f, refl)
some_lesser f (Some g) = go (no_later f g)
  where
    go : (b : Bool) → (h : Refusal) × (cond b (Some f) (Some g) ≡ Some h)
    go true = (f, refl)
    go false = (g, refl)

-- the facts on a number and a text, of the reading that has them
module _ (r : Reading) (number : ℕ) (text : List ℕ) (within : Inside) (en : r.number ≡ number) (et : r.text ≡ text) (ei : r.inside ≡ within) where
  first_at : (rule : Rule) (place : Place) → IsFirstBroken number text rule place → IsFirstBroken r.number r.text rule place
  first_at rule place h = subst (λ (n : ℕ). IsFirstBroken n r.text rule place) (sym en) (subst (λ (t : List ℕ). IsFirstBroken number t rule place) (sym et) h)

  whole_at : IsWhole number text → IsWhole r.number r.text
  whole_at h = subst (λ (n : ℕ). IsWhole n r.text) (sym en) (subst (λ (t : List ℕ). IsWhole number t) (sym et) h)

  lexed_at : (tokens : List Token) → Lexed number text tokens → Lexed r.number r.text tokens
  lexed_at tokens h = subst (λ (n : ℕ). Lexed n r.text tokens) (sym en) (subst (λ (t : List ℕ). Lexed number t tokens) (sym et) h)

  limit_at : (passes : Bool) (limit : Option Refusal) (place : Place) → limit ≡ cond passes (Some (broken_at TextTooLong place)) None → place ≡ place_at number text 0
      → limit ≡ cond passes (Some (broken_at TextTooLong (place_at r.number r.text 0))) None
  limit_at passes limit place e p =
      e ∙ ap (λ (q : Place). cond passes (Some (broken_at TextTooLong q)) None)
      (p ∙ ap (λ (n : ℕ). place_at n text 0) (sym en) ∙ ap (λ (t : List ℕ). place_at r.number t 0) (sym et))

  -- a text that breaks a rule of its own
  pub found_in_broken : (passes : Bool) (limit : Option Refusal) (place : Place) (f : Refusal) → MatchBool passes (Passes r) (Passes r → ⊥)
      → limit ≡ cond passes (Some (broken_at TextTooLong place)) None → place ≡ place_at number text 0
      → IsFirstBroken number text f.rule f.place → f.other ≡ None
      → IsFound r (record { given = nothing_in within; tokens = lesser_of (Some f) limit; grammar = None })
  found_in_broken passes limit place f p e at first o =
      let h = some_lesser f limit in
      found_broken r within (lesser_of (Some f) limit) h.0 ei h.1
      (subst (λ (x : Option Refusal). IsLeast (BreaksTokenRule r) (lesser_of (Some f) x)) (sym (limit_at passes limit place e at))
      (tokens_least r passes (Some f) p (text_least r f o (first_at f.rule f.place first))))

  -- a text with which there are too many bytes
  pub found_in_long : (limit : Option Refusal) (place : Place) → Passes r → limit ≡ Some (broken_at TextTooLong place) → place ≡ place_at number text 0
      → IsWhole number text → IsFound r (record { given = nothing_in within; tokens = limit; grammar = None })
  found_in_long limit place p e at whole =
      found_broken r within limit (broken_at TextTooLong place) ei e
      (subst (λ (x : Option Refusal). IsLeast (BreaksTokenRule r) x) (sym (limit_at true limit place e at))
      (tokens_least r true None p (text_none r (whole_at whole))))

  pub has_tokens : (tokens : List Token) → (Passes r → ⊥) → Lexed number text tokens → IsWhole number text → HasTokens r tokens
  has_tokens tokens p lexed whole = record {
    lexed = lexed_at tokens lexed;
    unbroken = none_broken (tokens_least r false None p (text_none r (whole_at whole)));
  }

pub same_tokens : (r : Reading) (a b : List Token) → HasTokens r a → HasTokens r b → a ≡ b
same_tokens r a b x y = one_lexing r.number r.text a b x.lexed y.lexed

same_refusal : (f g : Refusal) → f.rule ≡ g.rule → f.place ≡ g.place → f.other ≡ g.other → f ≡ g
same_refusal f g a b c =
    ap (λ (x : Rule). record { rule = x; place = f.place; other = f.other }) a
    ∙ ap (λ (x : Place). record { rule = g.rule; place = x; other = f.other }) b
    ∙ ap (λ (x : Option Place). record { rule = g.rule; place = g.place; other = x }) c

-- what the tokens of a file spell
pub found_given : ((tokens : List Token) (i : Inside) (rule : Rule) (place : Place) (xs : Members) → BreaksInside tokens i rule place → SpellsInside tokens i xs → ⊥)
    → (r : Reading) (within : Inside) (tokens : List Token) (x : Members) → r.inside ≡ within → HasTokens r tokens → SpellsInside tokens within x
    → IsFound r (record { given = x; tokens = None; grammar = None })
found_given never r within tokens x ei has spelled =
    let own : SpellsInside tokens r.inside x = subst (λ (i : Inside). SpellsInside tokens i x) (sym ei) spelled in
    record {
      tokens = least_none has.unbroken;
      grammar = least_none (λ f q. never tokens r.inside f.rule f.place x (subst (λ (ts : List Token). BreaksInside ts r.inside f.rule f.place) (same_tokens r q.0 tokens q.1 has) q.3) own);
      gives = inl (tokens, has, own);
    }

-- the rule of the grammar that they break
found_refused : ((tokens : List Token) (i : Inside) (rule other : Rule) (place elsewhere : Place) → BreaksInside tokens i rule place → BreaksInside tokens i other elsewhere → (rule ≡ other) × (place ≡ elsewhere))
    → (r : Reading) (within : Inside) (tokens : List Token) (f : Refusal) → r.inside ≡ within → HasTokens r tokens → f.other ≡ None → BreaksInside tokens within f.rule f.place
    → IsFound r (record { given = nothing_in within; tokens = None; grammar = Some f })
found_refused one r within tokens f ei has o broken =
    let own : BreaksInside tokens r.inside f.rule f.place = subst (λ (i : Inside). BreaksInside tokens i f.rule f.place) (sym ei) broken in
    record {
      tokens = least_none has.unbroken;
      grammar = least_only f (tokens, has, o, own) (λ g q.
          let same = one tokens r.inside f.rule g.rule f.place g.place own (subst (λ (ts : List Token). BreaksInside ts r.inside g.rule g.place) (same_tokens r q.0 tokens q.1 has) q.3) in
          same_refusal g f (sym same.0) (sym same.1) (q.2 ∙ sym o));
      gives = inr ((f, inr (tokens, has, o, own)), ap nothing_in (sym ei));
    }

-- what a stop says, whatever the tokens stand in
stops_at : (tokens : List Token) (i : Inside) (f : Refusal) → StopsInside tokens i (stop.Broken f) → (f.other ≡ None) × BreaksInside tokens i f.rule f.place
stops_at tokens inside.Unit f h = h
stops_at tokens inside.Component f h = h
stops_at tokens inside.Topology f h = h

pub found_stopped : ((tokens : List Token) (i : Inside) (rule other : Rule) (place elsewhere : Place) → BreaksInside tokens i rule place → BreaksInside tokens i other elsewhere → (rule ≡ other) × (place ≡ elsewhere))
    → (r : Reading) (within : Inside) (tokens : List Token) (f : Refusal) → r.inside ≡ within → HasTokens r tokens → StopsInside tokens within (stop.Broken f)
    → IsFound r (record { given = nothing_in within; tokens = None; grammar = Some f })
found_stopped one r within tokens f ei has stops = let at = stops_at tokens within f stops in found_refused one r within tokens f ei has at.0 at.1

-- the least over the files, with one more
pub in_files_least : {P : Reading → Refusal → Type 0} (walked : Walked) (r : Reading) (a b : Option Refusal) → IsLeast (InFiles P walked) a → IsLeast (P r) b
    → IsLeast (InFiles P (with_reading walked r)) (lesser_of a b)
in_files_least {P = P} walked r a b l m = least_same to back (least_either a b l m)
  where
    to : (f : Refusal) → Either (InFiles P walked) (P r) f → InFiles P (with_reading walked r) f
    to f (inl q) = (q.0, Contains-append_left walked.readings (r ∷ []) q.0 q.1, q.2)
    to f (inr p) = (r, Contains-push walked.readings r, p)

    back : (f : Refusal) → InFiles P (with_reading walked r) f → Either (InFiles P walked) (P r) f
    back f q = elim (Contains-push_cases walked.readings r q.0 q.1) [
      | inl h ↦ inl (q.0, h, q.2)
      | inr e ↦ inr (subst (λ (x : Reading). P x f) (sym e) q.2)
    ]

-- the least of the includes that break their rule, with one more
pub refused_least : (refused : List Refusal) (f : Refusal) (a : Option Refusal) → IsLeast (Contains refused) a → IsLeast (Contains (refused ++ f ∷ [])) (lesser_of a (Some f))
refused_least refused f a l = least_same to back (least_either a (Some f) l (least_one f))
  where
    to : (g : Refusal) → Either (Contains refused) (λ (x : Refusal). x ≡ f) g → Contains (refused ++ f ∷ []) g
    to g (inl h) = Contains-append_left refused (f ∷ []) g h
    to g (inr e) = subst (λ (x : Refusal). Contains (refused ++ f ∷ []) x) (sym e) (Contains-push refused f)

    back : (g : Refusal) → Contains (refused ++ f ∷ []) g → Either (Contains refused) (λ (x : Refusal). x ≡ f) g
    back g h = elim (Contains-push_cases refused f g h) [ inl q ↦ inl q | inr e ↦ inr (sym e) ]
