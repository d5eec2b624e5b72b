-- A format's text as single bytes of plain text and fields.
use Rattle.std.specs.Prelude.{◌≡◌, ℕ, true, false, List, [], ◌∷◌, ◌++◌}
use Rattle.std.specs.Str.{IsUtf8}
use Rattle.fp_base.specs.declared.format.FormatPiece.{FormatPiece}
use Rattle.fp_base.specs.declared.format.FormatPiece.TheVariants as piece
use Rattle.fp_formats.specs.declared.fault.FormatFault.{FormatFault}
use Rattle.fp_formats.specs.declared.fault.FormatFault.TheVariants as fault
use Rattle.fp_formats.specs.declared.mark.Mark.{Mark}
use Rattle.fp_formats.specs.declared.mark.Mark.TheVariants.{Byte, Field}
use Rattle.fp_formats.specs.declared.mark.Form.{Form}
use Rattle.fp_formats.specs.declared.mark.Form.TheVariants as form
use Rattle.fp_base.specs.Formats.{doubled}
use Rattle.fp_formats.specs.Spelling.{has_no_brace, is_form, IsLone}

abbrev pub form_text : Form → List ℕ
form_text form.Any = []
form_text form.Dec = 100 ∷ []
form_text form.Hex = 120 ∷ []
form_text form.Oct = 111 ∷ []
form_text form.Char = 99 ∷ []

abbrev pub mark_text : Mark → List ℕ
mark_text (Byte b) = doubled b
mark_text (Field f) = 123 ∷ (form_text f ++ (125 ∷ []))

-- a field of another form begins here
pub record IsOtherField (text : List ℕ) : Type 0 where
  pub inside : List ℕ
  pub after : List ℕ
  pub stands : text ≡ 123 ∷ (inside ++ (125 ∷ after))
  pub is_field : has_no_brace inside ≡ true
  pub is_other : is_form inside ≡ false

-- a lone brace begins here
pub record IsLoneBrace (text : List ℕ) : Type 0 where
  pub brace : ℕ
  pub after : List ℕ
  pub stands : text ≡ brace ∷ after
  pub lone : IsLone brace after

-- what refuses a text that begins so
abbrev pub IsStop : FormatFault → List ℕ → Type 0
IsStop fault.Field text = IsOtherField text
IsStop fault.Brace text = IsLoneBrace text
IsStop fault.NoMemory text = ⊥

-- ---- what was read so far: whole pieces, and bytes of plain text that wait for the end of their piece

abbrev pub pending : List ℕ → List FormatPiece
pending [] = []
pending (b ∷ s) = piece.Plain (b ∷ s) ∷ []

abbrev pub piece_of : Form → FormatPiece
piece_of form.Any = piece.Any
piece_of form.Dec = piece.Dec
piece_of form.Hex = piece.Hex
piece_of form.Oct = piece.Oct
piece_of form.Char = piece.Char

abbrev pub pieces_with : Mark → List FormatPiece → List ℕ → List FormatPiece
pieces_with (Byte b) parts plain = parts
pieces_with (Field f) parts plain = (parts ++ pending plain) ++ (piece_of f ∷ [])

abbrev pub plain_with : Mark → List ℕ → List ℕ
plain_with (Byte b) plain = plain ++ (b ∷ [])
plain_with (Field f) plain = []

abbrev pub IsReady : Mark → List ℕ → Type 0
IsReady (Byte b) plain = Unit {0}
IsReady (Field f) plain = IsUtf8 plain
