-- The tokens of a text: it is a concatenation of pieces, each the longest that begins at its place, and the tokens are theirs
-- after the newline rules. FPP Language Specification, "Lexical Elements".
use Rattle.std.specs.Prelude.{◌≡◌, ℕ, ◌+◌, ◌*◌, ◌-◌, ◌<◌, ◌≤◌, ◌⊎◌, ◌&&◌, ◌||◌, ◌==◌, List, [], ◌∷◌, ◌++◌, Bool, true, false, cond, length, drop, slice_get, slice_index, Option, Some, None, pos, ℤ}
use Rattle.std.specs.List.{list_all}
use Rattle.fp_base.specs.Places.{place_at}
use Rattle.fp_base.specs.declared.place.Span.{Span}
use Rattle.fp_base.specs.Names.{is_name, is_digit}
use Rattle.fp_lexer.specs.Bytes.{is_hex_digit, hex_digit, is_body, body_text, escapes, long_text, indent_at, line, newline_at, trimmed}
use Rattle.fp_lexer.specs.Newlines.{kept, ignored}
use Rattle.fp_lexer.specs.Words.{words, marks}
use Rattle.fp_lexer.specs.declared.token.Word.{Word}
use Rattle.fp_lexer.specs.declared.token.Word.TheVariants.{Name, Reserved, Number, Float, Str, Mark, Newline, Before, After}
use Rattle.fp_lexer.specs.declared.token.Token.{Token}

-- ---- pieces

-- FPP Language Specification, "Expressions", integer literals: decimal digits
abbrev pub is_number : List ℕ → Bool
is_number [] = false
is_number (b ∷ bs) = is_digit b && list_all is_digit bs

-- the number of decimal digits that follow a number
abbrev pub value_after : ℕ → List ℕ → ℕ
value_after n [] = n
value_after n (b ∷ bs) = value_after (10 * n + (b - 48)) bs

abbrev pub is_hex_digits : List ℕ → Bool
is_hex_digits [] = false
is_hex_digits (b ∷ bs) = is_hex_digit b && list_all is_hex_digit bs

abbrev pub is_hex_tail : List ℕ → Bool
is_hex_tail [] = false
is_hex_tail (b ∷ bs) = (b == 120 || b == 88) && is_hex_digits bs

-- or `0x` or `0X` and hexadecimal digits
abbrev pub is_hex : List ℕ → Bool
is_hex [] = false
is_hex (b ∷ bs) = b == 48 && is_hex_tail bs

-- the number of hexadecimal digits that follow a number
abbrev pub hex_after : ℕ → List ℕ → ℕ
hex_after n [] = n
hex_after n (b ∷ bs) = hex_after (16 * n + hex_digit b) bs

-- the bytes w are the number
abbrev pub Valued : List ℕ → ℤ → Type 0
Valued w n = ((n ≡ pos (value_after 0 w)) × (is_number w ≡ true)) ⊎ ((n ≡ pos (hex_after 0 (drop 2 w))) × (is_hex w ≡ true))

-- nothing, or `.` and any digits
abbrev pub is_fraction : List ℕ → Bool
is_fraction [] = true
is_fraction (b ∷ bs) = b == 46 && list_all is_digit bs

-- digits, after a sign or not
abbrev pub is_signed : List ℕ → Bool
is_signed [] = false
is_signed (b ∷ bs) = cond (b == 43 || b == 45) (is_number bs) (is_number (b ∷ bs))

-- nothing, or `e` or `E` and digits, after a sign or not
abbrev pub is_exponent : List ℕ → Bool
is_exponent [] = true
is_exponent (b ∷ bs) = (b == 101 || b == 69) && is_signed bs

-- FPP Language Specification, "Expressions", floating-point literals: digits, then a fraction, an exponent or both; this profile: any
-- number of digits, none too, behind the `.`
abbrev pub IsFloat : List ℕ → Type 0
IsFloat w = (digits fraction exponent : List ℕ) × (w ≡ digits ++ (fraction ++ exponent)) × (is_number digits ≡ true) × (is_fraction fraction ≡ true) × (is_exponent exponent ≡ true)
    × (0 < length (fraction ++ exponent))

-- the bytes w are a piece by themselves: a token's spelling, a blank, or a backslash and a newline
-- FPP Language Specification, "Lexical Elements", its reserved words, symbols, identifiers, white space and ends of lines: a `$`
-- before a name isn't part of it, and makes a reserved word a name; a backslash directly before a newline is blank with it; this
-- profile: the space and the tab are the only white space
abbrev pub Spelled : List ℕ → Option Word → Type 0
Spelled w None = (w ≡ 32 ∷ []) ⊎ ((w ≡ 9 ∷ []) ⊎ ((w ≡ 92 ∷ 10 ∷ []) ⊎ (w ≡ 92 ∷ 13 ∷ 10 ∷ [])))
Spelled w (Some (Name s)) = (is_name s ≡ true) × (((w ≡ s) × ((k : ℕ) → slice_get words k ≡ Some s → ⊥)) ⊎ (w ≡ 36 ∷ s))
Spelled w (Some (Reserved k)) = slice_get words k ≡ Some w
Spelled w (Some (Number n)) = Valued w n
Spelled w (Some Float) = IsFloat w
Spelled w (Some (Str s)) = ⊥
Spelled w (Some (Mark k)) = slice_get marks k ≡ Some w
Spelled w (Some Newline) = (w ≡ 10 ∷ []) ⊎ (w ≡ 13 ∷ 10 ∷ [])
Spelled w (Some (Before s)) = ⊥
Spelled w (Some (After s)) = ⊥

-- a text begins with a byte and `""`
abbrev pub begins_long : List ℕ → Bool
begins_long text = slice_index text 1 == 34 && slice_index text 2 == 34

-- the rest of a text begins with `"""`, the bytes `raw`, and then the first `"""` that isn't behind a backslash
pub record IsLongBody (rest raw : List ℕ) : Type 0 where
  pub more : List ℕ
  pub splits : rest ≡ 34 ∷ 34 ∷ 34 ∷ raw ++ 34 ∷ 34 ∷ 34 ∷ more
  pub free : escapes false raw ≡ false
  pub first : (shorter after : List ℕ) → rest ≡ 34 ∷ 34 ∷ 34 ∷ shorter ++ 34 ∷ 34 ∷ 34 ∷ after → escapes false shorter ≡ false → length raw ≤ length shorter

-- FPP Language Specification, "Expressions", string literals; this profile: a backslash stands for the byte behind it; a string on one
-- line doesn't begin with `"""`
abbrev pub OneLine : List ℕ → List ℕ → List ℕ → Type 0
OneLine rest w s = (raw more : List ℕ) × (rest ≡ 34 ∷ raw ++ 34 ∷ more) × (begins_long rest ≡ false) × (is_body false raw ≡ true) × (w ≡ 34 ∷ raw ++ 34 ∷ []) × (s ≡ body_text false raw)

-- the same section; this profile: spaces alone are left out at the starts of lines, before escapes are read, on the closing line too
abbrev pub ManyLines : ℕ → List ℕ → List ℕ → List ℕ → Type 0
ManyLines indent rest w s = (raw : List ℕ) × IsLongBody rest raw × (w ≡ 34 ∷ 34 ∷ 34 ∷ raw ++ 34 ∷ 34 ∷ 34 ∷ []) × (s ≡ long_text indent raw)

-- w is a piece by what follows it, and by how many bytes stand before it in its line: a string; or it goes to the end of the line with
-- which the rest of a text begins: a comment, an annotation of what stands before, or an annotation of what follows, with its newline
-- FPP Language Specification, "Comments and Annotations"; this profile: the text of an annotation has no blanks at its ends
abbrev pub Lined : ℕ → List ℕ → List ℕ → Option Word → Type 0
Lined indent rest w None = (t : List ℕ) × (rest ≡ 35 ∷ t) × (w ≡ 35 ∷ line t)
Lined indent rest w (Some (After s)) = (t : List ℕ) × (rest ≡ 64 ∷ 60 ∷ t) × (w ≡ 64 ∷ 60 ∷ line t) × (s ≡ trimmed (line t))
Lined indent rest w (Some (Before s)) = (t : List ℕ) × (rest ≡ 64 ∷ t) × (slice_index t 0 == 60 ≡ false) × (w ≡ 64 ∷ line t ++ newline_at (drop (length (line t)) t)) × (s ≡ trimmed (line t))
Lined indent rest w (Some (Str s)) = OneLine rest w s ⊎ ManyLines indent rest w s
Lined indent rest w what = ⊥

-- of the rest of a text, before which so many bytes stand in its line, the bytes w at its front are a piece
abbrev pub Spells : ℕ → List ℕ → List ℕ → Option Word → Type 0
Spells indent rest w what = Spelled w what ⊎ Lined indent rest w what

-- a piece, and the offsets of its first byte and of the byte after its last
pub record Lexeme : Type 0 where
  pub what : Option Word
  pub from : ℕ
  pub past : ℕ

-- of the pieces that the rest of a text begins with, w is the longest
pub record IsLongest (indent : ℕ) (rest w : List ℕ) (what : Option Word) : Type 0 where
  pub more : List ℕ
  pub splits : rest ≡ w ++ more
  pub spelled : Spells indent rest w what
  pub longest : (v after : List ℕ) (other : Option Word) → rest ≡ v ++ after → Spells indent rest v other → length v ≤ length w

-- the longest piece that begins at its place
abbrev pub IsLexeme : List ℕ → Lexeme → Type 0
IsLexeme text p = (w : List ℕ) × IsLongest (indent_at text p.from) (drop p.from text) w p.what × (p.past ≡ p.from + length w)

-- from an offset to another the text is these pieces
abbrev pub Cuts : List ℕ → ℕ → List Lexeme → ℕ → Type 0
Cuts text from [] to = from ≡ to
Cuts text from (p ∷ ps) to = (p.from ≡ from) × IsLexeme text p × Cuts text p.past ps to

-- ---- tokens

abbrev pub span_at : ℕ → List ℕ → ℕ → ℕ → Span
span_at file text from past = record { first = place_at file text from; past = place_at file text past }

abbrev pub with_token : Option Word → Span → List Token → List Token
with_token None span ts = ts
with_token (Some w) span ts = (record { what = w; at = span }) ∷ ts

-- the tokens of pieces
abbrev pub tokens_of : ℕ → List ℕ → List Lexeme → List Token
tokens_of file text [] = []
tokens_of file text (p ∷ ps) = with_token p.what (span_at file text p.from p.past) (tokens_of file text ps)

-- these are the tokens of the text
abbrev pub Lexed : ℕ → List ℕ → List Token → Type 0
Lexed file text tokens = (ps : List Lexeme) × Cuts text 0 ps (length text) × (tokens ≡ kept ignored (tokens_of file text ps))

-- the tokens stand on stretches of the text, each behind the one before, from an offset on
abbrev pub Rising : ℕ → List ℕ → ℕ → List Token → Type 0
Rising file text from [] = from ≤ length text
Rising file text from (t ∷ ts) = (first past : ℕ) × (from ≤ first) × (first < past) × (t.at ≡ span_at file text first past) × Rising file text past ts
