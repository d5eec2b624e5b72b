-- What comes first in a text, byte by byte: what the parts of the lexer that scan answer.
use Rattle.std.specs.Prelude.{slice_index, ℕ, ◌+◌, ◌-◌, ◌*◌, ◌==◌, ◌&&◌, ◌||◌, List, [], ◌∷◌, cond, drop, true, false, not, nat_lt, Bool, Option, Some, None}
use Rattle.std.specs.List.{prefix_len}
use Rattle.fp_base.specs.Names.{is_digit}
use Rattle.fp_lexer.specs.Bytes.{is_hex_digit, hex_digit, newline_len}
use Rattle.fp_lexer.specs.Words.{mark}
use Rattle.fp_lexer.specs.declared.shape.Shape.{Shape}
use Rattle.fp_lexer.specs.declared.shape.Shape.TheVariants as shape

-- first bytes, each with the rows of the table of reserved words whose words begin with it: the first, and the one past the last
abbrev pub rows : List (ℕ × ℕ × ℕ)
rows =
    (97, 0, 8) ∷ (98, 8, 11) ∷ (99, 11, 19) ∷ (100, 19, 24) ∷ (101, 24, 32) ∷ (70, 32, 34) ∷
    (102, 34, 37) ∷ (103, 37, 41) ∷ (104, 41, 44) ∷ (73, 44, 48) ∷ (105, 48, 57) ∷ (108, 57, 59) ∷
    (109, 59, 62) ∷ (111, 62, 67) ∷ (112, 67, 76) ∷ (113, 76, 78) ∷ (114, 78, 85) ∷ (115, 85, 97) ∷
    (116, 97, 104) ∷ (85, 104, 108) ∷ (117, 108, 110) ∷ (119, 110, 112) ∷ (121, 112, 113) ∷ []

abbrev pub rows_in : ℕ → List (ℕ × ℕ × ℕ) → ℕ × ℕ
rows_in b [] = (0, 0)
rows_in b (r ∷ rs) = cond (b == r.0) (r.1, r.2) (rows_in b rs)

-- the rows of a first byte
abbrev pub rows_of : ℕ → ℕ × ℕ
rows_of b = rows_in b rows

-- the number of the digits that come first, after a number
abbrev pub run_value : ℕ → List ℕ → ℕ
run_value n [] = n
run_value n (b ∷ bs) = cond (is_digit b) (run_value (10 * n + (b - 48)) bs) n

-- the same of hexadecimal digits
abbrev pub run_hex : ℕ → List ℕ → ℕ
run_hex n [] = n
run_hex n (b ∷ bs) = cond (is_hex_digit b) (run_hex (16 * n + hex_digit b) bs) n

-- three bytes begin a hexadecimal number
abbrev pub hex_starts : ℕ → ℕ → ℕ → Bool
hex_starts a b c = a == 48 && ((b == 120 || b == 88) && is_hex_digit c)

-- how many bytes the fraction has that a text begins with
abbrev pub fraction_len : List ℕ → ℕ
fraction_len r = cond (slice_index r 0 == 46) (1 + prefix_len is_digit (drop 1 r)) 0

abbrev pub sign_len : List ℕ → ℕ
sign_len r = cond (slice_index r 0 == 43 || slice_index r 0 == 45) 1 0

abbrev pub signed_at : ℕ → List ℕ → ℕ
signed_at k r = cond (prefix_len is_digit (drop k r) == 0) 0 (k + prefix_len is_digit (drop k r))

-- digits, after a sign or not
abbrev pub signed_len : List ℕ → ℕ
signed_len r = signed_at (sign_len r) r

-- how many bytes the exponent has that a text begins with
abbrev pub exponent_len : List ℕ → ℕ
exponent_len r = cond (slice_index r 0 == 101 || slice_index r 0 == 69) (cond (signed_len (drop 1 r) == 0) 0 (1 + signed_len (drop 1 r))) 0

-- a fraction and an exponent
abbrev pub tail_len : List ℕ → ℕ
tail_len r = fraction_len r + exponent_len (drop (fraction_len r) r)

-- digits, a fraction and an exponent
abbrev pub float_len : List ℕ → ℕ
float_len xs = prefix_len is_digit xs + tail_len (drop (prefix_len is_digit xs) xs)

-- the mark of one byte
abbrev pub one_mark : ℕ → Option ℕ
one_mark b =
    cond (b == 40) (Some (mark "(")) (cond (b == 41) (Some (mark ")")) (cond (b == 91) (Some (mark "[")) (cond (b == 93) (Some (mark "]")) (
    cond (b == 123) (Some (mark "{")) (cond (b == 125) (Some (mark "}")) (cond (b == 42) (Some (mark "*")) (cond (b == 47) (Some (mark "/")) (
    cond (b == 43) (Some (mark "+")) (cond (b == 45) (Some (mark "-")) (cond (b == 44) (Some (mark ",")) (cond (b == 46) (Some (mark ".")) (
    cond (b == 58) (Some (mark ":")) (cond (b == 59) (Some (mark ";")) (cond (b == 61) (Some (mark "=")) None))))))))))))))

abbrev pub one_mark_shape : Option ℕ → Option (Shape × ℕ)
one_mark_shape None = None
one_mark_shape (Some k) = Some (shape.Mark k, 1)

-- the piece that begins with a byte which begins no piece of another kind, by the byte after it, and its length
abbrev pub other : ℕ → ℕ → Option (Shape × ℕ)
other b next =
    cond (b == 32 || b == 9) (Some (shape.Blank, 1)) (
    cond (b == 10) (Some (shape.Newline, 1)) (
    cond (b == 13 && next == 10) (Some (shape.Newline, 2)) (
    cond (b == 45 && next == 62) (Some (shape.Mark (mark "->"), 2)) (
    one_mark_shape (one_mark b)))))

abbrev pub one_more : Option ℕ → Option ℕ
one_more None = None
one_more (Some n) = Some (n + 1)

-- how many bytes stand before the `"` that closes the body which goes on, behind a backslash or not
abbrev pub string_len : Bool → List ℕ → Option ℕ
string_len escaped [] = None
string_len true (b ∷ bs) = cond (b == 10) None (one_more (string_len false bs))
string_len false (b ∷ bs) = cond (b == 34) (Some 0) (cond (b == 10) None (one_more (string_len (b == 92) bs)))

-- how many bytes stand before the first `"""` that isn't behind a backslash, at a byte behind one or not
abbrev pub long_len : Bool → List ℕ → Option ℕ
long_len escaped [] = None
long_len true (b ∷ bs) = one_more (long_len false bs)
long_len false (b ∷ bs) = cond (b == 34 && (slice_index bs 0 == 34 && slice_index bs 1 == 34)) (Some 0) (one_more (long_len (b == 92) bs))

-- how many bytes stand before the first backslash, itself not behind one, that stands directly before a newline
abbrev pub bad_len : Bool → List ℕ → Option ℕ
bad_len escaped [] = None
bad_len true (b ∷ bs) = one_more (bad_len false bs)
bad_len false (b ∷ bs) = cond (b == 92 && not (newline_len bs == 0)) (Some 0) (one_more (bad_len (b == 92) bs))

-- how many spaces come first, and at most so many
abbrev pub spaces : ℕ → List ℕ → ℕ
spaces left [] = 0
spaces left (b ∷ bs) = cond (b == 32 && nat_lt 0 left) (1 + spaces (left - 1) bs) 0

-- behind so many bytes
abbrev pub past_bytes : ℕ → Option ℕ → Option ℕ
past_bytes n None = None
past_bytes n (Some m) = Some (n + m)
