-- Steps that several parsers take.
use Rattle.std.proofs.Common.{ℕ, ◌+◌, ◌-◌, ◌<◌, ◌≤◌, List, ◌++◌, ◌∙◌, ap, refl, arith}
use Rattle.std.specs.Prelude.{max}
use Rattle.std.proofs.Math.Nat.{max-le}
use Rattle.fp_lexer.specs.declared.token.Token.{Token}
use Rattle.fp_grammar.specs.Grammar.{Grammar}
use Rattle.fp_grammar.specs.Grammar.Grammar.{one_of, seq}
use Rattle.fp_grammar.specs.Promises.{Fits}
use Rattle.fp_grammar.specs.Parses.{Accepts, Refuses, NextAmong}
use Rattle.fp_grammar.proofs.Walk.{Absent, begin, next, done, stop}
use Rattle.fp_grammar.proofs.Steps.{one_of_accepts, map_accepts, map_refuses}
use Rattle.fp_parse_pieces.specs.Kinds.{kind}
use Rattle.fp_parse_pieces.specs.Lists.{after_lines, separated_by, commas}
use Rattle.fp_parse_pieces.specs.Lists.ListPiece.{separator}
use Rattle.fp_parse_pieces.proofs.WordsFit.{each_kind}

-- where the first of two is absent, both are
pub absent_seq : {A B : Type 0} {a : Grammar Token A} {b : Grammar Token B} {tokens : List Token} {mid : ℕ} → Absent kind a tokens mid → Absent kind (seq a b) tokens mid
absent_seq n = record { nothing = λ z y agrees s. n.nothing s.0 y.0 (λ t r e. agrees t (r ++ s.1) (s.2 ∙ ap (λ l. l ++ s.1) e)) s.3 }

separator_fits : Fits kind (seq (one_of commas) after_lines)
separator_fits = record { predictive = refl; some = refl; refs = (each_kind, each_kind) }

-- a comma, and the annotations behind it
pub separator_accepts : {X : Type 0} {tokens : List Token} {mid to : ℕ} {lines : List (List ℕ)} → NextAmong kind commas tokens mid → Accepts kind after_lines tokens (mid + 1) lines to → Accepts kind (separated_by {X = X} commas) tokens mid (separator lines) to
separator_accepts {tokens = tokens} {mid = mid} n p = map_accepts (done (next (begin tokens mid separator_fits) (one_of_accepts commas n.0 tokens mid n.1 n.2)) p)

pub separator_refuses : {X : Type 0} {tokens : List Token} {mid to : ℕ} → NextAmong kind commas tokens mid → Refuses kind after_lines tokens (mid + 1) to → Refuses kind (separated_by {X = X} commas) tokens mid to
separator_refuses {tokens = tokens} {mid = mid} n p = map_refuses (stop (next (begin tokens mid separator_fits) (one_of_accepts commas n.0 tokens mid n.1 n.2)) p)

-- one more level round two of less depth
pub combined_low : (left right depth : ℕ) → left < depth → right ≤ depth - 1 → max left right + 1 ≤ depth
combined_low left right depth p q =
    let h : max left right ≤ depth - 1 = max-le {a = left} {b = right} {k = depth - 1} (omega (arith, p)) q in
    omega (arith, h, p)
