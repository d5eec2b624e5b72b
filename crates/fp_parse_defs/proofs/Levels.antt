-- The grammar of expressions passes the test for one token of lookahead, at each depth.
use Rattle.std.proofs.Common.{◌≡◌, ℕ, zero, suc, ◌<◌, true, false, List, [], ◌∷◌, refl, sym, subst, arith}
use Rattle.std.specs.Prelude.{Result}
use Rattle.fp_lexer.specs.declared.token.Token.{Token}
use Rattle.fp_grammar.specs.declared.halt.Halt.{Halt}
use Rattle.fp_grammar.specs.Grammar.{Language}
use Rattle.fp_grammar.specs.Grammar.Grammar.{seq}
use Rattle.fp_grammar.specs.Promises.{IsGood, RefsGood, Fits}
use Rattle.fp_grammar.specs.Parses.{Accepts, Refuses, Parses}
use Rattle.fp_grammar.proofs.Fits.{good_of}
use Rattle.fp_grammar.proofs.Sealed.{sealed_good}
use Rattle.fp_grammar.proofs.Nesting.{closed_good, nested_good, closed_refuses, open_accepts, open_refuses}
use Rattle.fp_grammar.proofs.Answering.{handing}
use Rattle.fp_parse_defs.specs.declared.measured.Measured.{Measured}
use Rattle.fp_parse_pieces.specs.Kinds.{kind, k_dot, k_times, k_over, k_plus, k_minus}
use Rattle.fp_parse_defs.specs.Words.{nesting, plus_minus, times_over}
use Rattle.fp_parse_pieces.specs.Lists.{noted}
use Rattle.fp_parse_defs.specs.Language.{begins, is_left, Level, level, factor_body, factor_of, operand_of, term_body, term_of, expr_body, expr_of, nested, factor, term, expr, inside, negated, group, array, structure, items, setting, some_members}
use Rattle.fp_parse_pieces.proofs.WordsFit.{each_kind}

left_some : (depth : ℕ) → 0 < depth → is_left depth ≡ true
left_some zero p = absurd (omega (arith, p))
left_some (suc depth) p = refl

factor_good : {n : Language Token Measured} → IsGood kind n false false nesting (k_dot ∷ []) → RefsGood kind (factor_of n)
factor_good {n = n} g = sealed_good (factor_body n) begins (k_dot ∷ []) refl refl refl refl (assumption (each_kind, g))

term_good : (depth : ℕ) (l : Level) → RefsGood kind (factor_of l.nested) → IsGood kind l.factor false (is_left depth) begins (k_dot ∷ []) → RefsGood kind (term_of depth l)
term_good depth l f g = sealed_good (term_body depth l) begins (k_dot ∷ k_times ∷ k_over ∷ []) refl refl refl refl (assumption (each_kind, f, g))

expr_good : (depth : ℕ) (l : Level) → RefsGood kind (term_of depth l) → IsGood kind l.term false (is_left depth) begins (k_dot ∷ k_times ∷ k_over ∷ []) → RefsGood kind (expr_of depth l)
expr_good depth l t g = sealed_good (expr_body depth l) begins (k_dot ∷ k_times ∷ k_over ∷ k_plus ∷ k_minus ∷ []) refl refl refl refl (assumption (each_kind, t, g))

-- what the sets of the languages inside promise
pub record Kept (depth : ℕ) : Type 0 where
  pub nest : IsGood kind (level depth).nested false false nesting (k_dot ∷ [])
  pub low_factor : IsGood kind (level depth).factor false (is_left depth) begins (k_dot ∷ [])
  pub low_term : IsGood kind (level depth).term false (is_left depth) begins (k_dot ∷ k_times ∷ k_over ∷ [])
  pub factors : RefsGood kind (factor depth)
  pub terms : RefsGood kind (term depth)
  pub exprs : RefsGood kind (expr depth)

kept_of : (depth : ℕ) → IsGood kind (level depth).nested false false nesting (k_dot ∷ []) → IsGood kind (level depth).factor false (is_left depth) begins (k_dot ∷ []) → IsGood kind (level depth).term false (is_left depth) begins (k_dot ∷ k_times ∷ k_over ∷ []) → Kept depth
kept_of depth n f t =
    let fs : RefsGood kind (factor depth) = factor_good n in
    let ts : RefsGood kind (term depth) = term_good depth (level depth) fs f in
    let es : RefsGood kind (expr depth) = expr_good depth (level depth) ts t in
    record { nest = n; low_factor = f; low_term = t; factors = fs; terms = ts; exprs = es }

pub kept : (depth : ℕ) → Kept depth
kept zero = kept_of zero (closed_good (λ w x s. s)) (closed_good (λ w x s. s)) (closed_good (λ w x s. s))
kept (suc depth) =
    let k = kept depth in
    let f = k.factors in
    let e = k.exprs in
    kept_of (suc depth) (nested_good (good_of (inside depth) refl (assumption (each_kind, f, e)))) f k.terms

pub factor_fits : (depth : ℕ) → Fits kind (factor_body (level depth).nested)
factor_fits depth = let n = (kept depth).nest in record { predictive = refl; some = refl; refs = assumption (each_kind, n) }

pub term_fits : (depth : ℕ) → Fits kind (term_body depth (level depth))
term_fits depth = let k = kept depth in let f = k.factors in let g = k.low_factor in record { predictive = refl; some = refl; refs = assumption (each_kind, f, g) }

pub expr_fits : (depth : ℕ) → Fits kind (expr_body depth (level depth))
expr_fits depth = let k = kept depth in let t = k.terms in let g = k.low_term in record { predictive = refl; some = refl; refs = assumption (each_kind, t, g) }

-- an operator and its right operand
pub product_fits : (depth : ℕ) → 0 < depth → Fits kind (seq times_over (operand_of depth (level depth).factor (k_dot ∷ [])))
product_fits depth p = let g = (kept depth).low_factor in record { predictive = refl; some = left_some depth p; refs = assumption (each_kind, g) }

pub sum_fits : (depth : ℕ) → 0 < depth → Fits kind (seq plus_minus (operand_of depth (level depth).term (k_dot ∷ k_times ∷ k_over ∷ [])))
sum_fits depth p = let g = (kept depth).low_term in record { predictive = refl; some = left_some depth p; refs = assumption (each_kind, g) }

pub negated_fits : (depth : ℕ) → Fits kind (negated depth)
negated_fits depth = let f = (kept depth).factors in record { predictive = refl; some = refl; refs = assumption (each_kind, f) }

pub group_fits : (depth : ℕ) → Fits kind (group depth)
group_fits depth = let e = (kept depth).exprs in record { predictive = refl; some = refl; refs = assumption (each_kind, e) }

pub noted_expr_fits : (depth : ℕ) → Fits kind (noted (expr depth))
noted_expr_fits depth = let e = (kept depth).exprs in record { predictive = refl; some = refl; refs = assumption (each_kind, e) }

pub items_fits : (depth : ℕ) → Fits kind (items depth)
items_fits depth = let e = (kept depth).exprs in record { predictive = refl; some = refl; refs = assumption (each_kind, e) }

pub array_fits : (depth : ℕ) → Fits kind (array depth)
array_fits depth = let e = (kept depth).exprs in record { predictive = refl; some = refl; refs = assumption (each_kind, e) }

pub setting_fits : (depth : ℕ) → Fits kind (setting depth)
setting_fits depth = let e = (kept depth).exprs in record { predictive = refl; some = refl; refs = assumption (each_kind, e) }

pub noted_setting_fits : (depth : ℕ) → Fits kind (noted (setting depth))
noted_setting_fits depth = let e = (kept depth).exprs in record { predictive = refl; some = refl; refs = assumption (each_kind, e) }

pub some_members_fits : (depth : ℕ) → Fits kind (some_members depth)
some_members_fits depth = let e = (kept depth).exprs in record { predictive = refl; some = refl; refs = assumption (each_kind, e) }

pub structure_fits : (depth : ℕ) → Fits kind (structure depth)
structure_fits depth = let e = (kept depth).exprs in record { predictive = refl; some = refl; refs = assumption (each_kind, e) }

pub inside_fits : (depth : ℕ) → Fits kind (inside depth)
inside_fits depth = let k = kept depth in let f = k.factors in let e = k.exprs in record { predictive = refl; some = refl; refs = assumption (each_kind, f, e) }

-- no depth is left: nothing nests
pub nested_closed : (depth : ℕ) (tokens : List Token) (from : ℕ) → depth ≡ 0 → Refuses kind (nested depth) tokens from from
nested_closed zero tokens from e = closed_refuses (λ w x s. s) tokens from
nested_closed (suc depth) tokens from e = cc

-- what nests has one depth less inside it
pub nested_open : (depth inner : ℕ) (tokens : List Token) (from : ℕ) (r : Result (Measured × ℕ) Halt) → depth ≡ suc inner → Parses kind (inside inner) tokens from r → Parses kind (nested depth) tokens from r
nested_open depth inner tokens from r e p =
    subst (λ d. Parses kind (nested d) tokens from r) (sym e) (handing (λ x to i. open_accepts (λ w y s. s) (λ w y s. s) i) (λ to i. open_refuses (λ w y s. s) (λ w y s. s) i) r p)

pub low_factor_accepts : (depth inner : ℕ) {tokens : List Token} {from to : ℕ} {x : Measured} → depth ≡ suc inner → Accepts kind (factor inner) tokens from x to → Accepts kind (operand_of depth (level depth).factor (k_dot ∷ [])) tokens from x to
low_factor_accepts depth inner {tokens = tokens} {from = from} {to = to} {x = x} e p =
    subst (λ d. Accepts kind (operand_of d (level d).factor (k_dot ∷ [])) tokens from x to) (sym e) (open_accepts (λ w y s. s) (λ w y s. s) p)

pub low_factor_refuses : (depth inner : ℕ) {tokens : List Token} {from to : ℕ} → depth ≡ suc inner → Refuses kind (factor inner) tokens from to → Refuses kind (operand_of depth (level depth).factor (k_dot ∷ [])) tokens from to
low_factor_refuses depth inner {tokens = tokens} {from = from} {to = to} e p =
    subst (λ d. Refuses kind (operand_of d (level d).factor (k_dot ∷ [])) tokens from to) (sym e) (open_refuses (λ w y s. s) (λ w y s. s) p)

pub low_term_accepts : (depth inner : ℕ) {tokens : List Token} {from to : ℕ} {x : Measured} → depth ≡ suc inner → Accepts kind (term inner) tokens from x to → Accepts kind (operand_of depth (level depth).term (k_dot ∷ k_times ∷ k_over ∷ [])) tokens from x to
low_term_accepts depth inner {tokens = tokens} {from = from} {to = to} {x = x} e p =
    subst (λ d. Accepts kind (operand_of d (level d).term (k_dot ∷ k_times ∷ k_over ∷ [])) tokens from x to) (sym e) (open_accepts (λ w y s. s) (λ w y s. s) p)

pub low_term_refuses : (depth inner : ℕ) {tokens : List Token} {from to : ℕ} → depth ≡ suc inner → Refuses kind (term inner) tokens from to → Refuses kind (operand_of depth (level depth).term (k_dot ∷ k_times ∷ k_over ∷ [])) tokens from to
low_term_refuses depth inner {tokens = tokens} {from = from} {to = to} e p =
    subst (λ d. Refuses kind (operand_of d (level d).term (k_dot ∷ k_times ∷ k_over ∷ [])) tokens from to) (sym e) (open_refuses (λ w y s. s) (λ w y s. s) p)
