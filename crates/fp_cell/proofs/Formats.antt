-- Values of the kinds of an event's formals fill its format.
use Rattle.std.proofs.Common.{◌≡◌, ℤ, Bool, true, ◌&&◌, List, [], ◌∷◌, map, refl}
use Rattle.fp_base.specs.declared.format.FormatPiece.{FormatPiece}
use Rattle.fp_base.specs.declared.format.FormatPiece.TheVariants as piece
use Rattle.fp_base.specs.declared.value.Value.{Value, Int}
use Rattle.fp_base.proofs.Bools.{both, join}
use Rattle.fp_tables.specs.Formats.{suits, agree}
use Rattle.fp_tables.specs.Types.{Shape, integer, truth, words, array, struct, constants, opaque, nothing, shape, has, has_kind, have_kinds, is_integer}
use Rattle.fp_tables.specs.declared.kind.Formal.{Formal}
use Rattle.fp_tables.specs.declared.kind.Kind.{Kind}
use Rattle.fp_tables.specs.declared.kind.TypeDef.{TypeDef}
use Rattle.fp_formats.specs.Fits.{takes, fits, is_integer as is_number}

module _ (types : List TypeDef) where
  number_in : (low high : ℤ) (v : Value) → has types (integer low high) v ≡ true → is_number v ≡ true
  number_in low high (Int n) h = refl
  number_in low high _ h = absurd (cc)

  integer_value : (k : Kind) (v : Value) → is_integer types k ≡ true → has_kind types k v ≡ true → is_number v ≡ true
  integer_value k v is of = go (shape types k) refl
    where
      go : (s : Shape) → shape types k ≡ s → is_number v ≡ true
      go (integer low high) e = number_in low high v (rw e at of)
      go truth e = absurd (cc (rw e at is))
      go words e = absurd (cc (rw e at is))
      go (array n j) e = absurd (cc (rw e at is))
      go (struct fs) e = absurd (cc (rw e at is))
      go (constants cs) e = absurd (cc (rw e at is))
      go opaque e = absurd (cc (rw e at is))
      go nothing e = absurd (cc (rw e at is))

  taken : (p : FormatPiece) (f : Formal) (v : Value) → suits types p f ≡ true → has_kind types f.kind v ≡ true → takes p v ≡ true
  taken piece.Any f v h k = refl
  taken (piece.Plain s) f v h k = integer_value f.kind v h k
  taken piece.Dec f v h k = integer_value f.kind v h k
  taken piece.Hex f v h k = integer_value f.kind v h k
  taken piece.Oct f v h k = integer_value f.kind v h k
  taken piece.Char f v h k = integer_value f.kind v h k

  -- one field and its value
  one_field : (p : FormatPiece) (f : Formal) (v : Value) (rest fitting : Bool) (more : Bool) → (rest ≡ true → more ≡ true → fitting ≡ true)
      → (suits types p f && rest) ≡ true → (has_kind types f.kind v && more) ≡ true → (takes p v && fitting) ≡ true
  one_field p f v rest fitting more then h k =
      let a = both (suits types p f) rest h in
      let b = both (has_kind types f.kind v) more k in
      join (takes p v) fitting (taken p f v a.0 b.0) (then a.1 b.1)

  pub values_fit : (ps : List FormatPiece) (fs : List Formal) (vs : List Value) → agree types ps fs ≡ true → have_kinds types (map (λ (f : Formal). f.kind) fs) vs ≡ true → fits ps vs ≡ true
  values_fit [] [] [] h k = refl
  values_fit [] [] (v ∷ vs) h k = absurd (cc)
  values_fit [] (f ∷ fs) vs h k = absurd (cc)
  values_fit (piece.Plain s ∷ ps) fs vs h k = values_fit ps fs vs h k
  values_fit (piece.Any ∷ ps) [] vs h k = absurd (cc)
  values_fit (piece.Any ∷ ps) (f ∷ fs) [] h k = absurd (cc)
  values_fit (piece.Any ∷ ps) (f ∷ fs) (v ∷ vs) h k = one_field piece.Any f v _ _ _ (values_fit ps fs vs) h k
  values_fit (piece.Dec ∷ ps) [] vs h k = absurd (cc)
  values_fit (piece.Dec ∷ ps) (f ∷ fs) [] h k = absurd (cc)
  values_fit (piece.Dec ∷ ps) (f ∷ fs) (v ∷ vs) h k = one_field piece.Dec f v _ _ _ (values_fit ps fs vs) h k
  values_fit (piece.Hex ∷ ps) [] vs h k = absurd (cc)
  values_fit (piece.Hex ∷ ps) (f ∷ fs) [] h k = absurd (cc)
  values_fit (piece.Hex ∷ ps) (f ∷ fs) (v ∷ vs) h k = one_field piece.Hex f v _ _ _ (values_fit ps fs vs) h k
  values_fit (piece.Oct ∷ ps) [] vs h k = absurd (cc)
  values_fit (piece.Oct ∷ ps) (f ∷ fs) [] h k = absurd (cc)
  values_fit (piece.Oct ∷ ps) (f ∷ fs) (v ∷ vs) h k = one_field piece.Oct f v _ _ _ (values_fit ps fs vs) h k
  values_fit (piece.Char ∷ ps) [] vs h k = absurd (cc)
  values_fit (piece.Char ∷ ps) (f ∷ fs) [] h k = absurd (cc)
  values_fit (piece.Char ∷ ps) (f ∷ fs) (v ∷ vs) h k = one_field piece.Char f v _ _ _ (values_fit ps fs vs) h k
