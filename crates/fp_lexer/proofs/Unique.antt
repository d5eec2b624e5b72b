-- A text has one list of tokens.
use Rattle.std.proofs.Common.{◌≡◌, ℕ, List, [], ◌∷◌, length, drop, Option, sym, ap, ◌∙◌, arith, refl, subst}
use Rattle.fp_lexer.specs.Bytes.{indent_at}
use Rattle.fp_lexer.specs.Tokens.{Spells, IsLongest, IsLexeme, Lexeme, Cuts, Lexed, tokens_of}
use Rattle.fp_lexer.specs.Newlines.{kept, ignored}
use Rattle.fp_lexer.specs.declared.token.Word.{Word}
use Rattle.fp_lexer.specs.declared.token.Token.{Token}
use Rattle.fp_lexer.proofs.Meaning.{what_same}
use Rattle.fp_lexer.proofs.Cuts.{same_past, same_longest, piece_grows, cuts_up}

-- two longest pieces at one place are one
same_piece : (text : List ℕ) (p q : Lexeme) → IsLexeme text p → IsLexeme text q → p.from ≡ q.from → p ≡ q
same_piece text p q i j e =
    let past = same_past text p q i j e in
    let l : IsLongest (indent_at text p.from) (drop p.from text) j.0 q.what = subst (λ (k : ℕ). IsLongest (indent_at text k) (drop k text) j.0 q.what) (sym e) j.1 in
    let w = same_longest (indent_at text p.from) (drop p.from text) i.0 j.0 p.what q.what i.1 l in
    let here = subst (λ (x : List ℕ). Spells (indent_at text p.from) (drop p.from text) x q.what) (sym w) l.spelled in
    let what : p.what ≡ q.what = what_same (indent_at text p.from) (drop p.from text) i.0 i.1.more p.what q.what i.1.splits i.1.spelled here in
    let a : p ≡ record { what = q.what; from = p.from; past = p.past } = ap (λ (x : Option Word). record { what = x; from = p.from; past = p.past }) what in
    let b : record { what = q.what; from = p.from; past = p.past } ≡ record { what = q.what; from = q.from; past = p.past } = ap (λ (x : ℕ). record { what = q.what; from = x; past = p.past }) e in
    let c : record { what = q.what; from = q.from; past = p.past } ≡ q = ap (λ (x : ℕ). record { what = q.what; from = q.from; past = x }) past in
    a ∙ b ∙ c

pub same_pieces : (text : List ℕ) (a b c : ℕ) (ps qs : List Lexeme) → a ≡ b → Cuts text a ps c → Cuts text b qs c → ps ≡ qs
same_pieces text a b c [] [] e p q = refl
same_pieces text a b c [] (r ∷ qs) e p q = let g = piece_grows text r q.1 in let u = cuts_up text r.past c qs q.2 in let f = q.0 in absurd (omega (arith, g, u, f, e, p))
same_pieces text a b c (r ∷ ps) [] e p q = let g = piece_grows text r p.1 in let u = cuts_up text r.past c ps p.2 in let f = p.0 in absurd (omega (arith, g, u, f, e, q))
same_pieces text a b c (r ∷ ps) (s ∷ qs) e p q =
    let one = same_piece text r s p.1 q.1 (p.0 ∙ e ∙ sym q.0) in
    let rest = same_pieces text r.past s.past c ps qs (ap (λ (x : Lexeme). x.past) one) p.2 q.2 in
    cc

pub one_lexing : (file : ℕ) (text : List ℕ) (a b : List Token) → Lexed file text a → Lexed file text b → a ≡ b
one_lexing file text a b l m =
    let same = same_pieces text 0 0 (length text) l.0 m.0 refl l.1 m.1 in
    l.2 ∙ ap (λ (ps : List Lexeme). kept ignored (tokens_of file text ps)) same ∙ sym m.2
