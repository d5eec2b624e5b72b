-- How far a read of a file came says which tokens could follow.
use Rattle.std.proofs.Common.{◌≡◌, ℕ, ◌<◌, ◌≤◌, List, [], ◌∷◌, ◌++◌, length, take, drop, sym, ◌∙◌, ap, subst, arith, length-append, append_assoc}
use Rattle.std.specs.Prelude.{Result, Ok, Err, IsErrAnd}
use Rattle.std.proofs.lemmas.Result.{err_from_is_err_and}
use Rattle.fp_base.specs.declared.refusal.Stop.{Stop}
use Rattle.fp_lexer.specs.declared.token.Token.{Token}
use Rattle.fp_grammar.specs.declared.halt.Halt.{Halt}
use Rattle.fp_grammar.specs.declared.halt.Halt.TheVariants.{Unexpected}
use Rattle.fp_grammar.specs.Grammar.{Grammar, Spells}
use Rattle.fp_grammar.specs.Longest.{IsViable}
use Rattle.fp_grammar.specs.Broken.{IsBroken}
use Rattle.fp_grammar.specs.Promises.{Fits}
use Rattle.fp_grammar.specs.Parses.{Accepts, Refuses, RefusesBy}
use Rattle.fp_grammar.proofs.BrokenLemmas.{refused_broken}
use Rattle.fp_grammar.proofs.Lists.{Cuts, cuts_of}
use Rattle.fp_grammar.proofs.Lists.Cuts.{same, longer, shorter}
use Rattle.fp_grammar.proofs.LongestLemmas.{answers_longest}
use Rattle.fp_parse_pieces.specs.Kinds.{kind}
use Rattle.fp_parse_parts.specs.Files.{ReachesTo}
use Rattle.fp_parse_parts.specs.Units.{StopsInside, AnswersInside}
use Rattle.fp_parse_parts.specs.declared.parsing.Inside.{Inside}
use Rattle.fp_parse_parts.specs.declared.parsing.Members.{Members}

module _ {X : Type 0} (g : Grammar Token X) (fits : Fits kind g) where
  pub reached_by_node : (tokens : List Token) (x : X) (to : ℕ) → Accepts kind g tokens 0 x to → ReachesTo g tokens to
  reached_by_node tokens x to p =
      let a = answers_longest g tokens 0 (Ok (x, to)) fits p in
      (a.0, a.1, omega (arith, a.3))

  reached_by_refusal : (tokens : List Token) (to : ℕ) → Refuses kind g tokens 0 to → ReachesTo g tokens to
  reached_by_refusal tokens to p =
      let a = answers_longest g tokens 0 (Err (Unexpected to)) fits p in
      (a.0, a.1, omega (arith, a.3))

  pub reached_by_halt : (tokens : List Token) (halt : Halt) (to : ℕ) → halt ≡ Unexpected to → RefusesBy kind g tokens 0 halt → ReachesTo g tokens to
  reached_by_halt tokens halt to e p = reached_by_refusal tokens to (subst (λ h. RefusesBy kind g tokens 0 h) e p)

  refused_there : (tokens : List Token) (to : ℕ) → Refuses kind g tokens 0 to → IsBroken kind g tokens (take to tokens) (drop to tokens)
  refused_there tokens to p = refused_broken fits p

  pub halted : (tokens : List Token) (halt : Halt) (to : ℕ) → halt ≡ Unexpected to → RefusesBy kind g tokens 0 halt → IsBroken kind g tokens (take to tokens) (drop to tokens)
  halted tokens halt to e p = refused_there tokens to (subst (λ h. RefusesBy kind g tokens 0 h) e p)

-- more was read: the token could stand there
pub goes_on : {X : Type 0} (g : Grammar Token X) (tokens before : List Token) (t : Token) (rest : List Token) (to : ℕ) → tokens ≡ before ++ t ∷ rest → ReachesTo g tokens to → length before < to → IsViable kind g (before ++ t ∷ [])
goes_on g tokens before t rest to e (w, v, p) l = go (cuts_of before (t ∷ rest) w v.begins.0 (sym e ∙ v.begins.1))
  where
    go : Cuts before (t ∷ rest) w v.begins.0 → IsViable kind g (before ++ t ∷ [])
    go (same f h) = absurd (omega (arith, l, p, ap length f))
    go (longer s r f h) =
        let i : s ≡ t = cc in
        (r ++ v.viable.0, v.viable.1, subst (λ z. Spells kind g z v.viable.1) (ap (λ z. z ++ v.viable.0) f ∙ append_assoc before (s ∷ r) v.viable.0 ∙ ap (λ z. before ++ z ∷ (r ++ v.viable.0)) i ∙ sym (append_assoc before (t ∷ []) (r ++ v.viable.0))) v.viable.2)
    go (shorter s r f h) = absurd (omega (arith, l, p, ap length f, length-append w (s ∷ r)))

-- no more was read: it could not
pub ends_there : {X : Type 0} (g : Grammar Token X) (tokens before : List Token) (t : Token) (rest : List Token) (to : ℕ) → tokens ≡ before ++ t ∷ rest → ReachesTo g tokens to → to ≤ length before → IsViable kind g (before ++ t ∷ []) → ⊥
ends_there g tokens before t rest to e (w, v, p) l viable =
    let h = v.longest (before ++ t ∷ []) (rest, e ∙ sym (append_assoc before (t ∷ []) rest)) viable in
    omega (arith, l, p, h, length-append before (t ∷ []))

-- why a parse stops is handed on
pub stop_passed : (tokens : List Token) (i : Inside) (stop : Stop) (r : Result Members Stop) → IsErrAnd r (λ y. y ≡ stop) → StopsInside tokens i stop → AnswersInside tokens i r
stop_passed tokens i stop r e s =
    let p = err_from_is_err_and r e in
    subst (λ v. AnswersInside tokens i v) (sym p.1) (subst (λ v. StopsInside tokens i v) (sym p.2) s)

-- what is answered where the tokens stand
pub answered_there : (tokens slice : List Token) (i j : Inside) (r : Result Members Stop) → slice ≡ tokens → i ≡ j → AnswersInside slice j r → AnswersInside tokens i r
answered_there tokens slice i j r e f a = subst (λ k. AnswersInside tokens k r) (sym f) (subst (λ l. AnswersInside l j r) e a)
