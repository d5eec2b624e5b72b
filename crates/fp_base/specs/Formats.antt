-- Formats as they are written.
use Rattle.std.specs.Prelude.{ℕ, Bool, true, false, cond, not, ◌&&◌, ◌||◌, ◌==◌, List, [], ◌∷◌, flat_map}
use Rattle.fp_base.specs.declared.format.FormatPiece.{FormatPiece}
use Rattle.fp_base.specs.declared.format.FormatPiece.TheVariants as piece

abbrev pub is_brace : ℕ → Bool
is_brace b = (b == 123) || (b == 125)

-- a brace that is text stands twice
abbrev pub doubled : ℕ → List ℕ
doubled b = cond (is_brace b) (b ∷ b ∷ []) (b ∷ [])

abbrev pub spelled : FormatPiece → List ℕ
spelled (piece.Plain s) = flat_map doubled s
spelled piece.Any = 123 ∷ 125 ∷ []
spelled piece.Dec = 123 ∷ 100 ∷ 125 ∷ []
spelled piece.Hex = 123 ∷ 120 ∷ 125 ∷ []
spelled piece.Oct = 123 ∷ 111 ∷ 125 ∷ []
spelled piece.Char = 123 ∷ 99 ∷ 125 ∷ []

abbrev pub spelling : List FormatPiece → List ℕ
spelling ps = flat_map spelled ps

abbrev pub is_empty_text : List ℕ → Bool
is_empty_text [] = true
is_empty_text _ = false

-- no text is empty, and no two texts stand side by side
abbrev pub are_whole : Bool → List FormatPiece → Bool
are_whole after_text [] = true
are_whole after_text (piece.Plain s ∷ ps) = not after_text && not (is_empty_text s) && are_whole true ps
are_whole after_text (p ∷ ps) = are_whole false ps
