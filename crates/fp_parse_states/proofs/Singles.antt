-- What the tokens are that are pieces by themselves.
use Rattle.std.proofs.Common.{◌≡◌, ℕ, refl, subst, inl, inr, arith}
use Rattle.std.specs.Prelude.{cond, ◌==◌}
use Rattle.fp_lexer.specs.Words.{mark}
use Rattle.fp_base.specs.declared.place.Span.{Span}
use Rattle.fp_lexer.specs.declared.token.Word.{Word}
use Rattle.fp_lexer.specs.declared.token.Word.TheVariants as word
use Rattle.fp_lexer.specs.declared.token.Token.{Token}
use Rattle.fp_grammar.specs.Grammar.{Among}
use Rattle.fp_parse_states.specs.declared.head.BodyPiece.{BodyPiece}
use Rattle.fp_parse_states.specs.declared.head.BodyPiece.TheVariants as piece
use Rattle.fp_parse_pieces.specs.Kinds.{kind, word_kind, k_newline, k_before, k_after, k_open_brace, k_close_brace}
use Rattle.fp_parse_states.specs.Bodies.{k_semicolon, single_piece}
use Rattle.fp_parse_pieces.specs.Lists.{note_text}
use Rattle.fp_parse_states.specs.Nested.{semicolons}

abbrev of_mark : Span → ℕ → BodyPiece
of_mark at m = cond (m == mark "{") piece.Open (cond (m == mark "}") (piece.Close at) piece.Separator)

close_word : (at : Span) (w : Word) → word_kind w ≡ k_close_brace → single_piece (record { what = w; at = at }) ≡ piece.Close at
close_word at (word.Mark m) e = let f : 5 ≡ m = omega (arith, e) in subst (λ k. of_mark at k ≡ piece.Close at) f refl
close_word at _ e = absurd (omega (arith, e))

open_word : (at : Span) (w : Word) → word_kind w ≡ k_open_brace → single_piece (record { what = w; at = at }) ≡ piece.Open
open_word at (word.Mark m) e = let f : 4 ≡ m = omega (arith, e) in subst (λ k. of_mark at k ≡ piece.Open) f refl
open_word at _ e = absurd (omega (arith, e))

semicolon_word : (at : Span) (w : Word) → word_kind w ≡ k_semicolon → single_piece (record { what = w; at = at }) ≡ piece.Separator
semicolon_word at (word.Mark m) e = let f : 14 ≡ m = omega (arith, e) in subst (λ k. of_mark at k ≡ piece.Separator) f refl
semicolon_word at _ e = absurd (omega (arith, e))

newline_word : (at : Span) (w : Word) → word_kind w ≡ k_newline → single_piece (record { what = w; at = at }) ≡ piece.Separator
newline_word at word.Newline e = refl
newline_word at _ e = absurd (omega (arith, e))

before_word : (at : Span) (w : Word) → word_kind w ≡ k_before → single_piece (record { what = w; at = at }) ≡ piece.Before (note_text w)
before_word at (word.Before _) e = refl
before_word at _ e = absurd (omega (arith, e))

after_word : (at : Span) (w : Word) → word_kind w ≡ k_after → single_piece (record { what = w; at = at }) ≡ piece.After (note_text w)
after_word at (word.After _) e = refl
after_word at _ e = absurd (omega (arith, e))

pub close_piece : (t : Token) → kind t ≡ k_close_brace → single_piece t ≡ piece.Close t.at
close_piece t e = close_word t.at t.what e

pub open_piece : (t : Token) → kind t ≡ k_open_brace → single_piece t ≡ piece.Open
open_piece t e = open_word t.at t.what e

pub before_piece : (t : Token) → kind t ≡ k_before → single_piece t ≡ piece.Before (note_text t.what)
before_piece t e = before_word t.at t.what e

pub after_piece : (t : Token) → kind t ≡ k_after → single_piece t ≡ piece.After (note_text t.what)
after_piece t e = after_word t.at t.what e

pub separator_piece : (t : Token) → Among (kind t) semicolons → single_piece t ≡ piece.Separator
separator_piece t (inl e) = semicolon_word t.at t.what e
separator_piece t (inr (inl e)) = newline_word t.at t.what e
separator_piece t (inr (inr e)) = absurd e
