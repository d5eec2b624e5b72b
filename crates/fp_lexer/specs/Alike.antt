-- Texts that differ only in comments and blanks, and in how many newlines stand in a row: cut into pieces, those that are tokens are
-- written alike, one after another.
use Rattle.std.specs.Prelude.{◌≡◌, ℕ, ◌-◌, List, [], ◌∷◌, take, drop, length, map, Option, Some, None, Bool, true, false, cond}
use Rattle.fp_lexer.specs.Bytes.{indent_at}
use Rattle.fp_lexer.specs.Tokens.{Lexeme, Cuts}
use Rattle.fp_lexer.specs.Newlines.{is_newline}
use Rattle.fp_lexer.specs.declared.token.Word.{Word}
use Rattle.fp_lexer.specs.declared.token.Token.{Token}

-- the bytes of a piece
abbrev pub bytes_of : List ℕ → Lexeme → List ℕ
bytes_of text p = take (p.past - p.from) (drop p.from text)

-- a piece and those behind it, which are told by whether the token before them is a newline
abbrev pub seen : Bool → Option Word → Lexeme → (Bool → List Lexeme) → List Lexeme
seen behind None p rest = rest behind
seen behind (Some w) p rest = cond (is_newline w) (cond behind (rest true) (p ∷ rest true)) (p ∷ rest false)

-- the pieces that are tokens, so neither comments nor blanks, without newlines that directly follow a newline; the token before them is
-- a newline or not
abbrev pub token_pieces : Bool → List Lexeme → List Lexeme
token_pieces behind [] = []
token_pieces behind (p ∷ ps) = seen behind p.what p (λ b. token_pieces b ps)

-- the same bytes; where they begin with `"""`, as many bytes stand before them in their lines, since the text of such a string is
-- told by its column
abbrev pub WrittenAlike : List ℕ → Lexeme → List ℕ → Lexeme → Type 0
WrittenAlike text p other q = (bytes_of text p ≡ bytes_of other q) × ((rest : List ℕ) → bytes_of text p ≡ 34 ∷ 34 ∷ 34 ∷ rest → indent_at text p.from ≡ indent_at other q.from)

-- one after another
abbrev pub AllAlike : List ℕ → List Lexeme → List ℕ → List Lexeme → Type 0
AllAlike text [] other [] = Unit {0}
AllAlike text (p ∷ ps) other (q ∷ qs) = WrittenAlike text p other q × AllAlike text ps other qs
AllAlike text ps other qs = ⊥

-- newlines at the start, and all but one of those in a row, stand for as little as comments and blanks
pub record DifferInBlanks (text other : List ℕ) : Type 0 where
  pub ps : List Lexeme
  pub qs : List Lexeme
  pub first : Cuts text 0 ps (length text)
  pub second : Cuts other 0 qs (length other)
  pub alike : AllAlike text (token_pieces true ps) other (token_pieces true qs)

-- the words of tokens, without their places
abbrev pub words_of : List Token → List Word
words_of tokens = map (λ t. t.what) tokens
