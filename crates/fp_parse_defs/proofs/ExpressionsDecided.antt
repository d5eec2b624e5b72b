-- At each depth, expressions and the names of types have an answer at each position of each token list.
use Rattle.std.proofs.Common.{◌≡◌, ℕ, zero, suc, Bool, true, List, [], ◌∷◌, ◌++◌, refl, sym, ◌∙◌, ap, subst, append-nil, arith}
use Rattle.std.proofs.lemmas.Bool.{ltb-true}
use Rattle.fp_base.proofs.Bools.{and_left}
use Rattle.fp_lexer.specs.declared.token.Token.{Token}
use Rattle.fp_grammar.specs.Grammar.{Grammar, Spells, SpellsMany, SpellsSeq, built, allowed}
use Rattle.fp_grammar.specs.Grammar.Grammar.{seq, chain}
use Rattle.fp_grammar.specs.Seal.{seal, sealed_nonterminal}
use Rattle.fp_grammar.specs.Same.{IsSameLanguage}
use Rattle.fp_grammar.specs.Decided.{Answer, RefsDecided}
use Rattle.fp_grammar.specs.Decided.Answer.{refused}
use Rattle.fp_grammar.proofs.Sames.{same_answer}
use Rattle.fp_grammar.proofs.Deciding.{answer_of}
use Rattle.fp_grammar.proofs.Nesting.{closed_refuses, open_answer}
use Rattle.fp_parse_defs.specs.declared.measured.Measured.{Measured}
use Rattle.fp_parse_pieces.specs.Kinds.{kind, k_dot, k_times, k_over, k_plus, k_minus}
use Rattle.fp_parse_pieces.specs.Words.{qual}
use Rattle.fp_parse_defs.specs.Words.{plus_minus, times_over}
use Rattle.fp_parse_defs.specs.Language.{begins, combined, lower, level, factor_body, factor_of, operand_of, term_body, term_of, expr_body, nested, factor, term, expr, inside}
use Rattle.fp_parse_defs.specs.Definitions.{type_begins, expr_goes_on, k_size, type_body, type_name}
use Rattle.fp_parse_defs.proofs.Levels.{kept, factor_fits, term_fits, expr_fits, inside_fits}
use Rattle.fp_parse_defs.proofs.DefinitionsFit.{type_body_fits}

-- what never allows an operator is its first operand
never_goes_on : {Y : Type 0} (a : Grammar Token Measured) (b : Grammar Token Y) (allows : Measured → Bool) (build : Measured → Y → Measured) → ((x : Measured) → allows x ≡ true → ⊥) → IsSameLanguage kind (chain a b allows build) a
never_goes_on {Y = Y} a b allows build never = record { into = λ w x s. into w x s.0.0 s.0.1 s.1 s.2 s.3; out = λ w x s. ((x, []), refl, refl, (w, [], sym (append-nil w), s, refl)) }
  where
    into : (w : List Token) (x p : Measured) (ys : List Y) → x ≡ built build p ys → allowed allows build p ys ≡ true → SpellsSeq (Spells kind a) (SpellsMany (Spells kind b)) w (p, ys) → Spells kind a w x
    into w x p [] e f (u, v, g, s, i) = subst (λ l. Spells kind a l x) (sym (g ∙ ap (λ l. u ++ l) i ∙ append-nil u)) (subst (λ y. Spells kind a u y) (sym e) s)
    into w x p (y ∷ ys) e f s = absurd (never p (and_left (allows p) _ f))

nothing_lower : (x : Measured) → lower 0 x ≡ true → ⊥
nothing_lower x e = absurd (omega (arith, ltb-true x.height 0 e))

sealed_answer : {X : Type 0} (g : Grammar Token X) (fs es : List ℕ) (tokens : List Token) (from : ℕ) → Answer kind g tokens from → Answer kind (seal kind g fs es) tokens from
sealed_answer g fs es tokens from a = open_answer {n = sealed_nonterminal kind g fs es} {g = g} (λ w x s. s) (λ w x s. s) tokens from a

record IsDecided (depth : ℕ) : Type 0 where
  factors : RefsDecided kind (factor depth)
  terms : RefsDecided kind (term depth)
  exprs : RefsDecided kind (expr depth)

factor_decided : (depth : ℕ) → RefsDecided kind (nested depth) → RefsDecided kind (factor depth)
factor_decided depth n = λ tokens from. sealed_answer (factor_body (level depth).nested) begins (k_dot ∷ []) tokens from (answer_of (factor_body (level depth).nested) refl (factor_fits depth).refs (tt, ((refl, tt, (refl, tt, tt)), n)) tokens from)

-- with no depth left no operator follows
decided_at_none : IsDecided 0
decided_at_none =
    let f = factor_decided 0 (λ tokens from. refused from (closed_refuses (λ w x s. s) tokens from)) in
    let t : RefsDecided kind (term 0) = λ tokens from. sealed_answer (term_body 0 (level 0)) begins (k_dot ∷ k_times ∷ k_over ∷ []) tokens from (same_answer (never_goes_on (factor 0) (seq times_over (operand_of 0 (level 0).factor (k_dot ∷ []))) (lower 0) combined nothing_lower) (f tokens from)) in
    record { factors = f; terms = t; exprs = λ tokens from. sealed_answer (expr_body 0 (level 0)) begins (k_dot ∷ k_times ∷ k_over ∷ k_plus ∷ k_minus ∷ []) tokens from (same_answer (never_goes_on (term 0) (seq plus_minus (operand_of 0 (level 0).term (k_dot ∷ k_times ∷ k_over ∷ []))) (lower 0) combined nothing_lower) (t tokens from)) }

inside_decided : (depth : ℕ) → IsDecided depth → RefsDecided kind (inside depth)
inside_decided depth d = (
  (refl, tt, d.factors),
  (
    (refl, tt, (refl, d.exprs, tt)),
    (
      (refl, tt, (refl, (refl, (refl, tt, (refl, d.exprs, tt)), ((refl, tt, tt), (refl, tt, (refl, d.exprs, tt)))), tt)),
      (refl, tt, (refl, (refl, (refl, tt, (refl, (refl, tt, (refl, tt, d.exprs)), tt)), ((refl, tt, tt), (refl, tt, (refl, (refl, tt, (refl, tt, d.exprs)), tt)))), tt)),
    ),
  ),
)

decided_above : (depth : ℕ) → IsDecided depth → IsDecided (suc depth)
decided_above depth d =
    let f = factor_decided (suc depth) (λ tokens from. open_answer (λ w x s. s) (λ w x s. s) tokens from (answer_of (inside depth) (inside_fits depth).predictive (inside_fits depth).refs (inside_decided depth d) tokens from)) in
    let lf : RefsDecided kind (operand_of (suc depth) (level (suc depth)).factor (k_dot ∷ [])) = λ tokens from. open_answer (λ w x s. s) (λ w x s. s) tokens from (d.factors tokens from) in
    let lt : RefsDecided kind (operand_of (suc depth) (level (suc depth)).term (k_dot ∷ k_times ∷ k_over ∷ [])) = λ tokens from. open_answer (λ w x s. s) (λ w x s. s) tokens from (d.terms tokens from) in
    let t : RefsDecided kind (term (suc depth)) = λ tokens from. sealed_answer (term_body (suc depth) (level (suc depth))) begins (k_dot ∷ k_times ∷ k_over ∷ []) tokens from (answer_of (term_body (suc depth) (level (suc depth))) refl (term_fits (suc depth)).refs (refl, f, (refl, tt, lf)) tokens from) in
    record { factors = f; terms = t; exprs = λ tokens from. sealed_answer (expr_body (suc depth) (level (suc depth))) begins (k_dot ∷ k_times ∷ k_over ∷ k_plus ∷ k_minus ∷ []) tokens from (answer_of (expr_body (suc depth) (level (suc depth))) refl (expr_fits (suc depth)).refs (refl, t, (refl, tt, lt)) tokens from) }

decided : (depth : ℕ) → IsDecided depth
decided zero = decided_at_none
decided (suc depth) = decided_above depth (decided depth)

pub type_decided : (depth : ℕ) → RefsDecided kind (type_name depth)
type_decided depth = λ tokens from. sealed_answer (type_body depth) type_begins (k_size ∷ expr_goes_on) tokens from (answer_of (type_body depth) (type_body_fits depth).predictive (type_body_fits depth).refs ((tt, (tt, tt)), ((refl, tt, (refl, tt, (decided depth).exprs)), (refl, tt, (refl, tt, tt)))) tokens from)

pub expr_decided : (depth : ℕ) → RefsDecided kind (expr depth)
expr_decided depth = (decided depth).exprs
