-- The text of a value, and a format with its fields filled.
use Rattle.std.specs.Prelude.{ℕ, suc, false, cond, ◌/◌, ◌%◌, nat_lt, nat_le, ◌&&◌, ◌||◌, ◌==◌, ℤ, pos, negsuc, List, [], ◌∷◌, ◌++◌, flat_map}
use Rattle.std.specs.Fmt.{digits, digit_glyph}
use Rattle.fp_base.specs.declared.value.Value.{Value, Int, Bool as Truth, Text, Enumerated, Array', Struct', Opaque, Row_of-Value, more_of-Value, end_of-Value}
use Rattle.fp_base.specs.declared.value.Value.TheBlock as block
use Rattle.fp_base.specs.declared.value.MemberValue.{MemberValue}
use Rattle.fp_base.specs.declared.format.FormatPiece.{FormatPiece}
use Rattle.fp_base.specs.declared.format.FormatPiece.TheVariants as piece

-- a number in a base, in lower case
abbrev pub in_base : ℕ → ℤ → List ℕ
in_base base (pos n) = digits base false n
in_base base (negsuc n) = 45 ∷ digits base false (suc n)

-- a byte of a text in quotes: `"` and `\` after `\`, control bytes as `\x` and two digits
abbrev pub escaped : ℕ → List ℕ
escaped b =
    cond (b == 34 || b == 92) (92 ∷ b ∷ [])
    (cond (nat_lt b 32 || b == 127) (92 ∷ 120 ∷ digit_glyph false (b / 16) ∷ digit_glyph false (b % 16) ∷ []) (b ∷ []))

abbrev pub quoted : List ℕ → List ℕ
quoted s = 34 ∷ flat_map escaped s ++ 34 ∷ []

-- texts with `, ` between them
abbrev pub joined : List (List ℕ) → List ℕ
joined [] = []
joined (s ∷ ss) = s ++ flat_map (λ t. 44 ∷ 32 ∷ t) ss

-- the text of a struct's member
abbrev pub named_text : List ℕ → List ℕ → List ℕ
named_text name text = name ++ 32 ∷ 61 ∷ 32 ∷ text

-- a value's text: numbers in decimal, texts in quotes, constants by their own names, arrays in [ ] and structs in { }
abbrev mutual
  pub value_text : Value → List ℕ
  value_text (Int n) = in_base 10 n
  value_text (Truth b) = cond b (116 ∷ 114 ∷ 117 ∷ 101 ∷ []) (102 ∷ 97 ∷ 108 ∷ 115 ∷ 101 ∷ [])
  value_text (Text s) = quoted s
  value_text (Enumerated e c n) = c
  value_text (Array' m vs) = 91 ∷ joined (item_texts vs) ++ 93 ∷ []
  value_text (Struct' m ps) = 123 ∷ joined (part_texts ps) ++ 125 ∷ []
  value_text Opaque = 111 ∷ 112 ∷ 97 ∷ 113 ∷ 117 ∷ 101 ∷ []

  pub item_texts : {m : _} → Row_of-Value m → List (List ℕ)
  item_texts end_of-Value = []
  item_texts (more_of-Value v vs) = value_text v ∷ item_texts vs

  pub part_texts : {m : _} → block.Row_of-MemberValue m → List (List ℕ)
  part_texts block.end_of-MemberValue = []
  part_texts (block.more_of-MemberValue n v ps) = named_text n (value_text v) ∷ part_texts ps

abbrev pub part_text : MemberValue → List ℕ
part_text p = named_text p.name (value_text p.value)

-- the number of an integer or an enumerated constant
abbrev pub number_of : Value → ℤ
number_of (Int n) = n
number_of (Enumerated e c n) = n
number_of _ = pos 0

-- the character of a code from 32 to 126, else `?`
abbrev pub character : ℤ → List ℕ
character (pos n) = cond (nat_le 32 n && nat_le n 126) (n ∷ []) (63 ∷ [])
character (negsuc n) = 63 ∷ []

abbrev pub field : FormatPiece → Value → List ℕ
field piece.Any v = value_text v
field piece.Dec v = in_base 10 (number_of v)
field piece.Hex v = in_base 16 (number_of v)
field piece.Oct v = in_base 8 (number_of v)
field piece.Char v = character (number_of v)
field (piece.Plain s) v = s

-- each field takes the next value
abbrev pub rendered : List FormatPiece → List Value → List ℕ
rendered [] vs = []
rendered (piece.Plain s ∷ ps) vs = s ++ rendered ps vs
rendered (p ∷ ps) [] = rendered ps []
rendered (p ∷ ps) (v ∷ vs) = field p v ++ rendered ps vs
