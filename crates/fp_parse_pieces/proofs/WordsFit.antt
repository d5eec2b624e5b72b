-- What single tokens spell passes the test for one token of lookahead.
use Rattle.std.proofs.Common.{◌≡◌, ℕ, zero, suc, ◌+◌, ◌*◌, ◌⊎◌, [], ◌∷◌, List, refl, inl, inr, arith, subst}
use Rattle.std.specs.Prelude.{pos, Bool}
use Rattle.fp_base.specs.declared.place.Place.{Place}
use Rattle.fp_base.specs.declared.place.Span.{Span}
use Rattle.fp_lexer.specs.declared.token.Word.{Word}
use Rattle.fp_lexer.specs.declared.token.Word.TheVariants as word
use Rattle.fp_lexer.specs.declared.token.Token.{Token}
use Rattle.fp_grammar.specs.Grammar.{Grammar, after}
use Rattle.fp_grammar.specs.Grammar.Grammar.{token, one_of, seq}
use Rattle.fp_grammar.specs.Promises.{HasEachKind, Fits}
use Rattle.fp_grammar.specs.Parses.{Accepts, Refuses, NextAmong}
use Rattle.fp_grammar.proofs.Steps.{token_accepts, one_of_accepts, map_accepts, map_refuses}
use Rattle.fp_grammar.proofs.Walk.{begin, next, done, stop}
use Rattle.fp_grammar.proofs.ChainSteps.{Building}
use Rattle.fp_parse_pieces.specs.Kinds.{kind, word_kind, k_dot}
use Rattle.fp_parse_pieces.specs.Words as W
use Rattle.fp_parse_pieces.specs.Lists as L
use Rattle.fp_parse_pieces.specs.Lists.ListPiece.{separator}

pub somewhere : Span
somewhere = let place : Place = record { file = 0; line = 1; column = 1 } in record { first = place; past = place }

-- a number is even or odd
half : (n : ℕ) → ((m : ℕ) × (n ≡ 2 * m)) ⊎ ((m : ℕ) × (n ≡ 2 * m + 1))
half zero = inl (0, refl)
half (suc n) =
    elim (half n) [
      | inl (m, e) ↦ inr (m, omega (arith, e))
      | inr (m, e) ↦ inl (m + 1, omega (arith, e))
    ]

-- a word of each kind
word_of : (k : ℕ) → (w : Word) × (word_kind w ≡ k)
word_of zero = (word.Name [], refl)
word_of (suc zero) = (word.Number (pos 0), refl)
word_of (suc (suc zero)) = (word.Float, refl)
word_of (suc (suc (suc zero))) = (word.Str [], refl)
word_of (suc (suc (suc (suc zero)))) = (word.Newline, refl)
word_of (suc (suc (suc (suc (suc zero))))) = (word.Before [], refl)
word_of (suc (suc (suc (suc (suc (suc zero)))))) = (word.After [], refl)
word_of (suc (suc (suc (suc (suc (suc (suc n))))))) =
    elim (half n) [
      | inl (m, e) ↦ (word.Mark m, omega (arith, e))
      | inr (m, e) ↦ (word.Reserved m, omega (arith, e))
    ]

pub each_kind : HasEachKind kind
each_kind = record { example = λ k. let w = word_of k in (record { what = w.0; at = somewhere }, w.1) }

pub before_lines_fits : Fits kind L.before_lines
before_lines_fits = record { predictive = refl; some = refl; refs = assumption each_kind }

pub after_lines_fits : Fits kind L.after_lines
after_lines_fits = record { predictive = refl; some = refl; refs = assumption each_kind }

pub qual_fits : Fits kind W.qual
qual_fits = record { predictive = refl; some = refl; refs = assumption each_kind }

-- a name behind a dot
pub dotted_fits : Fits kind (seq (token k_dot) W.name)
dotted_fits = record { predictive = refl; some = refl; refs = assumption each_kind }

-- what was built, said otherwise
pub building_as : {X Y : Type 0} {a : Grammar Token X} {b : Grammar Token Y} {allows : X → Bool} {build : X → Y → X} {tokens : List Token} {from mid : ℕ} {sum sum' : X} → sum ≡ sum' → Building kind a b allows build tokens from sum mid → Building kind a b allows build tokens from sum' mid
building_as {a = a} {b = b} {allows = allows} {build = build} {tokens = tokens} {from = from} {mid = mid} e r = subst (λ s. Building kind a b allows build tokens from s mid) e r

-- a token of this kind is next, and then what was read
pub after_accepts : {X : Type 0} {k : ℕ} {a : Grammar Token X} {tokens : List Token} {mid to : ℕ} {x : X} → Fits kind (seq (token k) a) → NextAmong kind (k ∷ []) tokens mid → Accepts kind a tokens (mid + 1) x to → Accepts kind (after k a) tokens mid x to
after_accepts {k = k} {tokens = tokens} {mid = mid} fits (t, e, inl f, _) p = map_accepts (done (next (begin tokens mid fits) (token_accepts k t tokens mid e f)) p)
after_accepts fits (t, e, inr f, _) p = absurd f

pub after_refuses : {X : Type 0} {k : ℕ} {a : Grammar Token X} {tokens : List Token} {mid to : ℕ} → Fits kind (seq (token k) a) → NextAmong kind (k ∷ []) tokens mid → Refuses kind a tokens (mid + 1) to → Refuses kind (after k a) tokens mid to
after_refuses {k = k} {tokens = tokens} {mid = mid} fits (t, e, inl f, _) p = map_refuses (stop (next (begin tokens mid fits) (token_accepts k t tokens mid e f)) p)
after_refuses fits (t, e, inr f, _) p = absurd f

separator_fits : (mark : ℕ) → Fits kind (seq (one_of (L.separators mark)) L.after_lines)
separator_fits mark = record { predictive = refl; some = refl; refs = (each_kind, each_kind) }

-- a separator, and the annotations behind it
pub separator_accepts : {X : Type 0} (mark : ℕ) {tokens : List Token} {mid to : ℕ} {lines : List (List ℕ)} → NextAmong kind (L.separators mark) tokens mid → Accepts kind L.after_lines tokens (mid + 1) lines to → Accepts kind (L.separated_by {X = X} (L.separators mark)) tokens mid (separator lines) to
separator_accepts mark {tokens = tokens} {mid = mid} n p = map_accepts (done (next (begin tokens mid (separator_fits mark)) (one_of_accepts (L.separators mark) n.0 tokens mid n.1 n.2)) p)

pub separator_refuses : {X : Type 0} (mark : ℕ) {tokens : List Token} {mid to : ℕ} → NextAmong kind (L.separators mark) tokens mid → Refuses kind L.after_lines tokens (mid + 1) to → Refuses kind (L.separated_by {X = X} (L.separators mark)) tokens mid to
separator_refuses mark {tokens = tokens} {mid = mid} n p = map_refuses (stop (next (begin tokens mid (separator_fits mark)) (one_of_accepts (L.separators mark) n.0 tokens mid n.1 n.2)) p)
