-- What a piece that isn't plain text renders.
use Rattle.std.proofs.Common.{◌≡◌, ℕ, List, [], ◌∷◌, ◌++◌, refl}
use Rattle.fp_base.specs.declared.value.Value.{Value}
use Rattle.fp_base.specs.declared.format.FormatPiece.{FormatPiece}
use Rattle.fp_base.specs.declared.format.FormatPiece.TheVariants as piece
use Rattle.fp_base.specs.Rendered.{rendered, field}

pub field_first : (p : FormatPiece) → ((s : List ℕ) → p ≡ piece.Plain s → ⊥) → (ps : List FormatPiece) (v : Value) (vs : List Value) → rendered (p ∷ ps) (v ∷ vs) ≡ field p v ++ rendered ps vs
field_first (piece.Plain s) h ps v vs = absurd (h s refl)
field_first piece.Any h ps v vs = refl
field_first piece.Dec h ps v vs = refl
field_first piece.Hex h ps v vs = refl
field_first piece.Oct h ps v vs = refl
field_first piece.Char h ps v vs = refl

pub field_unfilled : (p : FormatPiece) → ((s : List ℕ) → p ≡ piece.Plain s → ⊥) → (ps : List FormatPiece) → rendered (p ∷ ps) [] ≡ rendered ps []
field_unfilled (piece.Plain s) h ps = absurd (h s refl)
field_unfilled piece.Any h ps = refl
field_unfilled piece.Dec h ps = refl
field_unfilled piece.Hex h ps = refl
field_unfilled piece.Oct h ps = refl
field_unfilled piece.Char h ps = refl
