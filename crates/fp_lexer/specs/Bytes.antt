-- Kinds of bytes, and lines. FPP Language Specification, "Lexical Elements": the characters of identifiers, of integer literals, of
-- white space and of ends of lines.
use Rattle.std.specs.Prelude.{ℕ, Bool, true, false, not, ◌-◌, ◌&&◌, ◌||◌, nat_le, nat_lt, ◌==◌, List, [], ◌∷◌, cond, length, take, drop, slice_index}
use Rattle.std.specs.List.{prefix_len, suffix_len}
use Rattle.fp_base.specs.Names.{is_digit}

abbrev pub is_hex_digit : ℕ → Bool
is_hex_digit b = is_digit b || ((nat_le 97 b && nat_le b 102) || (nat_le 65 b && nat_le b 70))

-- what a hexadecimal digit stands for
abbrev pub hex_digit : ℕ → ℕ
hex_digit b = cond (is_digit b) (b - 48) (cond (nat_le 97 b) (b - 87) (b - 55))

-- a space or a tab
abbrev pub is_blank : ℕ → Bool
is_blank b = b == 32 || b == 9

-- ---- the bodies of strings
-- FPP Language Specification, "Expressions", string literals: escapes, and the indentation of strings between `"""`; this profile: a
-- backslash stands for the byte behind it, and spaces alone are indentation

-- the body of a string on one line, at a byte behind a backslash or not: a backslash stands before any byte but a newline, and
-- there is no other backslash, no newline and no `"`
abbrev pub is_body : Bool → List ℕ → Bool
is_body escaped [] = not escaped
is_body true (b ∷ bs) = not (b == 10) && is_body false bs
is_body false (b ∷ bs) = cond (b == 92) (is_body true bs) (not (b == 34 || b == 10) && is_body false bs)

-- what a body stands for: each backslash that isn't itself behind one is left out
abbrev pub body_text : Bool → List ℕ → List ℕ
body_text escaped [] = []
body_text true (b ∷ bs) = b ∷ body_text false bs
body_text false (b ∷ bs) = cond (b == 92) (body_text true bs) (b ∷ body_text false bs)

-- whether the byte after these stands behind a backslash that isn't itself behind one; the first of these does or doesn't
abbrev pub escapes : Bool → List ℕ → Bool
escapes escaped [] = escaped
escapes true (b ∷ bs) = escapes false bs
escapes false (b ∷ bs) = escapes (b == 92) bs

-- up to `left` spaces are left out at the front, and up to `indent` at the start of each later line
abbrev pub dedent : ℕ → ℕ → List ℕ → List ℕ
dedent indent left [] = []
dedent indent left (b ∷ bs) = cond (b == 32 && nat_lt 0 left) (dedent indent (left - 1) bs) (b ∷ dedent indent (cond (b == 10) indent 0) bs)

-- ---- lines

-- how many bytes the newline has that begins with the first of two bytes: a carriage return directly before a newline belongs to it
abbrev pub newline_of : ℕ → ℕ → ℕ
newline_of b next = cond (b == 10) 1 (cond (b == 13 && next == 10) 2 0)

-- how many bytes the newline has that a text begins with
abbrev pub newline_len : List ℕ → ℕ
newline_len [] = 0
newline_len (b ∷ bs) = newline_of b (slice_index bs 0)

-- the newline that a text begins with, if any
abbrev pub newline_at : List ℕ → List ℕ
newline_at text = take (newline_len text) text

-- the bytes before the first newline
abbrev pub line : List ℕ → List ℕ
line [] = []
line (b ∷ bs) = cond (newline_len (b ∷ bs) == 0) (b ∷ line bs) []

-- a line without the blanks at its ends
abbrev pub trimmed : List ℕ → List ℕ
trimmed bs =
    let rest = drop (prefix_len is_blank bs) bs in
    take (length rest - suffix_len is_blank rest) rest

-- what the body of a string between `"""` stands for, by how many bytes stand before its opening in the line: without a newline at
-- its front, up to as many spaces at the start of each later line, and the backslashes of escapes
abbrev pub long_text : ℕ → List ℕ → List ℕ
long_text indent raw = body_text false (drop (newline_len raw) (dedent indent 0 raw))

-- how many bytes stand before an offset in its line
abbrev pub indent_at : List ℕ → ℕ → ℕ
indent_at text at = suffix_len (λ b. not (b == 10)) (take at text)
