-- From what was read at the depth that is allowed, and at one more, to what a parse answers.
use Rattle.std.proofs.Common.{◌≡◌, ℕ, ◌+◌, ◌<◌, ◌≤◌, List, [], ◌∷◌, ◌++◌, Option, Some, None, length, take, drop, refl, sym, ◌∙◌, ap, subst, inl, inr, arith, length-append, append_assoc}
use Rattle.std.specs.Prelude.{Ok, Err}
use Rattle.fp_base.specs.declared.refusal.Refusal.{Refusal}
use Rattle.fp_base.specs.declared.refusal.Stop.TheVariants.{Broken}
use Rattle.fp_base.specs.declared.rule.Rule.TheVariants.{NestingTooDeep}
use Rattle.fp_lexer.specs.declared.token.Token.{Token}
use Rattle.fp_grammar.specs.declared.halt.Halt.TheVariants.{Unexpected}
use Rattle.fp_grammar.specs.Grammar.{Grammar, Spells}
use Rattle.fp_grammar.specs.Longest.{IsLongestViable}
use Rattle.fp_grammar.specs.Parses.{Accepts, Refuses}
use Rattle.fp_grammar.specs.Throughout.{FitsThroughout}
use Rattle.fp_grammar.proofs.Throughout.{fits_whole}
use Rattle.fp_grammar.proofs.Lists.{Cuts, cuts_of}
use Rattle.fp_grammar.proofs.Lists.Cuts.{same, longer, shorter}
use Rattle.fp_grammar.proofs.LongestLemmas.{answers_longest}
use Rattle.fp_parse_pieces.specs.Kinds.{kind}
use Rattle.fp_parse_defs.specs.Language.{expression}
use Rattle.fp_parse_defs.specs.Reading.{limit, unexpected, Deeper, BeginsAt, NodeOf, Reads, AnswersNode}
use Rattle.fp_parse_pieces.proofs.WordsFit.{each_kind}
use Rattle.fp_parse_defs.proofs.Levels.{kept}

pub expression_fits : (depth : ℕ) → FitsThroughout kind (expression depth)
expression_fits depth = let e = (kept depth).exprs in record { predictive = refl; each = refl; refs = assumption (each_kind, e) }

pub read_some : {X : Type 0} {g : Grammar Token X} {tokens : List Token} {from to : ℕ} {x : X} → FitsThroughout kind g → Accepts kind g tokens from x to → Reads g tokens from (Some x) to
read_some {g = g} {tokens = tokens} {from = from} {to = to} {x = x} fits p =
    let a = answers_longest g tokens from (Ok (x, to)) (fits_whole fits) p in
    (a.0, a.1, a.3, a.2)

pub read_none : {X : Type 0} {g : Grammar Token X} {tokens : List Token} {from to : ℕ} → FitsThroughout kind g → Refuses kind g tokens from to → Reads g tokens from None to
read_none {g = g} {tokens = tokens} {from = from} {to = to} fits p =
    let a = answers_longest g tokens from (Err (Unexpected to)) (fits_whole fits) p in
    (a.0, a.1, a.3, a.2)

module _ {X : Type 0} (g : ℕ → Grammar Token X) where
  -- at one level more, more was read
  pub deeper : (rest w w' : List Token) → IsLongestViable kind (g limit) rest w → IsLongestViable kind (g (limit + 1)) rest w' → length w < length w' → Deeper g rest w
  deeper rest w w' v v' l = go (cuts_of w v.begins.0 w' v'.begins.0 (sym v.begins.1 ∙ v'.begins.1))
    where
      go : Cuts w v.begins.0 w' v'.begins.0 → Deeper g rest w
      go (same e f) = absurd (omega (arith, l, ap length e))
      go (longer t r e f) = (t, r ++ v'.begins.0, v.begins.1 ∙ ap (λ s. w ++ s) f, (r ++ v'.viable.0, v'.viable.1, subst (λ s. Spells kind (g (limit + 1)) s v'.viable.1) (ap (λ s. s ++ v'.viable.0) e ∙ append_assoc w (t ∷ r) v'.viable.0 ∙ sym (append_assoc w (t ∷ []) (r ++ v'.viable.0))) v'.viable.2))
      go (shorter t r e f) = absurd (omega (arith, l, ap length e, length-append w' (t ∷ r)))

  -- at one level more, no more was read
  pub not_deeper : (rest w w' : List Token) → IsLongestViable kind (g (limit + 1)) rest w' → length w' ≤ length w → Deeper g rest w → ⊥
  not_deeper rest w w' v' l (t, s, e, viable) =
      let h = v'.longest (w ++ t ∷ []) (s, e ∙ sym (append_assoc w (t ∷ []) s)) viable in
      omega (arith, l, h, length-append w (t ∷ []))

  pub answer_deeper : (tokens : List Token) (from to to' : ℕ) (found more : Option X) (r : Refusal) → Reads (g limit) tokens from found to → Reads (g (limit + 1)) tokens from more to' → to < to' → r.rule ≡ NestingTooDeep → r.other ≡ None → BeginsAt (take to tokens) (drop to tokens) r.place → AnswersNode g tokens from (Err (Broken r))
  answer_deeper tokens from to to' found more r (w, v, e, n) (w', v', e', _) l rule other place =
      (w, v, subst (λ m. BeginsAt (take m tokens) (drop m tokens) r.place) e place, other, inl (deeper (drop from tokens) w w' v v' (omega (arith, l, e, e')), rule))

  pub answer_node : (tokens : List Token) (from to to' : ℕ) (found more : Option X) (x : X) → found ≡ Some x → Reads (g limit) tokens from found to → Reads (g (limit + 1)) tokens from more to' → to' ≤ to → AnswersNode g tokens from (Ok (x, to))
  answer_node tokens from to to' found more x is (w, v, e, n) (w', v', e', _) l = (w, v, subst (λ o. NodeOf (g limit) w o) is n, e, not_deeper (drop from tokens) w w' v' (omega (arith, l, e, e')))

  pub answer_none : (tokens : List Token) (from to to' : ℕ) (found more : Option X) (r : Refusal) → found ≡ None → Reads (g limit) tokens from found to → Reads (g (limit + 1)) tokens from more to' → to' ≤ to → r.rule ≡ unexpected (drop to tokens) → r.other ≡ None → BeginsAt (take to tokens) (drop to tokens) r.place → AnswersNode g tokens from (Err (Broken r))
  answer_none tokens from to to' found more r is (w, v, e, n) (w', v', e', _) l rule other place =
      (w, v, subst (λ m. BeginsAt (take m tokens) (drop m tokens) r.place) e place, other, inr (not_deeper (drop from tokens) w w' v' (omega (arith, l, e, e')), subst (λ o. NodeOf (g limit) w o) is n, rule ∙ ap (λ m. unexpected (drop m tokens)) e))
