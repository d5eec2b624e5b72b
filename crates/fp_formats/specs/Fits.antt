-- Which values a format's fields take.
use Rattle.std.specs.Prelude.{Bool, true, false, ◌&&◌, List, [], ◌∷◌}
use Rattle.fp_base.specs.declared.format.FormatPiece.{FormatPiece}
use Rattle.fp_base.specs.declared.format.FormatPiece.TheVariants as piece
use Rattle.fp_base.specs.declared.value.Value.{Value, Int}

abbrev pub is_integer : Value → Bool
is_integer (Int n) = true
is_integer _ = false

-- a field other than `{}` is of an integer
abbrev pub takes : FormatPiece → Value → Bool
takes piece.Any v = true
takes p v = is_integer v

-- there is one field for each value
abbrev pub fits : List FormatPiece → List Value → Bool
fits [] [] = true
fits [] (v ∷ vs) = false
fits (piece.Plain s ∷ ps) vs = fits ps vs
fits (p ∷ ps) [] = false
fits (p ∷ ps) (v ∷ vs) = takes p v && fits ps vs
