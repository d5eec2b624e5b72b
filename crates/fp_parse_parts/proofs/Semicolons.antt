-- What separates members, and the annotations behind it.
use Rattle.std.proofs.Common.{◌≡◌, ℕ, ◌+◌, ◌⊎◌, List, [], ◌++◌, refl, inl, inr}
use Rattle.fp_lexer.specs.declared.token.Token.{Token}
use Rattle.fp_grammar.specs.Grammar.{Grammar, Spells}
use Rattle.fp_grammar.specs.Grammar.Grammar.{one_of, seq, map}
use Rattle.fp_grammar.specs.Promises.{Fits}
use Rattle.fp_grammar.specs.Parses.{Accepts, Refuses, NextAmong}
use Rattle.fp_grammar.proofs.Walk.{begin, next, done, stop}
use Rattle.fp_grammar.proofs.Steps.{one_of_accepts, map_accepts, map_refuses}
use Rattle.fp_parse_pieces.specs.Kinds.{kind}
use Rattle.fp_parse_pieces.specs.Lists.{after_lines, separated_by}
use Rattle.fp_parse_pieces.specs.Lists.ListPiece.{separator}
use Rattle.fp_parse_pieces.proofs.WordsFit.{each_kind}
use Rattle.fp_parse_parts.specs.Members.{semicolons}

separator_fits : Fits kind (seq (one_of semicolons) after_lines)
separator_fits = record { predictive = refl; some = refl; refs = (each_kind, each_kind) }

pub separator_accepts : {X : Type 0} {tokens : List Token} {mid to : ℕ} {lines : List (List ℕ)} → NextAmong kind semicolons tokens mid → Accepts kind after_lines tokens (mid + 1) lines to → Accepts kind (separated_by {X = X} semicolons) tokens mid (separator lines) to
separator_accepts {tokens = tokens} {mid = mid} n p = map_accepts (done (next (begin tokens mid separator_fits) (one_of_accepts semicolons n.0 tokens mid n.1 n.2)) p)

pub separator_refuses : {X : Type 0} {tokens : List Token} {mid to : ℕ} → NextAmong kind semicolons tokens mid → Refuses kind after_lines tokens (mid + 1) to → Refuses kind (separated_by {X = X} semicolons) tokens mid to
separator_refuses {tokens = tokens} {mid = mid} n p = map_refuses (stop (next (begin tokens mid separator_fits) (one_of_accepts semicolons n.0 tokens mid n.1 n.2)) p)

-- what is under a map was read
pub unmapped_accepts : {X Y : Type 0} {f : X → Y} {a : Grammar Token X} {tokens : List Token} {mid to : ℕ} {y : Y} → Accepts kind (map f a) tokens mid y to → (x : X) × (y ≡ f x) × Accepts kind a tokens mid x to
unmapped_accepts {f = f} p = (p.spelled.0, p.spelled.1, record { w = p.w; place = p.place; splits = p.splits; spelled = p.spelled.2; stuck = λ t s more x e i. p.stuck t s more (f x) e (x, refl, i) })

pub unmapped_refuses : {X Y : Type 0} {f : X → Y} {a : Grammar Token X} {tokens : List Token} {mid to : ℕ} → Refuses kind (map f a) tokens mid to → Refuses kind a tokens mid to
unmapped_refuses {X = X} {Y = Y} {f = f} {a = a} p = record {
  w = p.w;
  place = p.place;
  splits = p.splits;
  viable = viable p.viable;
  none = λ x i. p.none (f x) (x, refl, i);
  stuck = λ t s more x e i. p.stuck t s more (f x) e (x, refl, i);
}
  where
    viable : ((p.w ≡ []) ⊎ ((more : List Token) × (y : Y) × Spells kind (map f a) (p.w ++ more) y)) → (p.w ≡ []) ⊎ ((more : List Token) × (x : X) × Spells kind a (p.w ++ more) x)
    viable (inl e) = inl e
    viable (inr (more, y, (x, e, s))) = inr (more, x, s)
