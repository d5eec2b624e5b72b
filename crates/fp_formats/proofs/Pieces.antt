-- Pieces and marks: whole pieces are what their marks make.
use Rattle.std.proofs.Common.{◌≡◌, ℕ, Bool, true, false, not, ◌&&◌, List, [], ◌∷◌, ◌++◌, map, refl, sym, ◌∙◌, ap}
use Rattle.std.specs.Prelude.{flat_map}
use Rattle.std.proofs.lemmas.Grind.{flat_map-append}
use Rattle.fp_base.specs.declared.format.FormatPiece.{FormatPiece}
use Rattle.fp_base.specs.declared.format.FormatPiece.TheVariants as piece
use Rattle.fp_formats.specs.declared.mark.Mark.{Mark}
use Rattle.fp_formats.specs.declared.mark.Mark.TheVariants.{Byte, Field}
use Rattle.fp_formats.specs.declared.mark.Form.TheVariants as form
use Rattle.fp_base.specs.Formats.{doubled, spelled, spelling, are_whole}
use Rattle.fp_formats.specs.Marks.{mark_text, piece_of}
use Rattle.fp_base.proofs.Bools.{both}

pub marks_in : FormatPiece → List Mark
marks_in (piece.Plain s) = map (λ b. Byte b) s
marks_in piece.Any = Field form.Any ∷ []
marks_in piece.Dec = Field form.Dec ∷ []
marks_in piece.Hex = Field form.Hex ∷ []
marks_in piece.Oct = Field form.Oct ∷ []
marks_in piece.Char = Field form.Char ∷ []

pub marks_of : List FormatPiece → List Mark
marks_of [] = []
marks_of (p ∷ ps) = marks_in p ++ marks_of ps

unfoldable pub written : List Mark → List ℕ
written ms = flat_map mark_text ms

plain_written : (s : List ℕ) → flat_map doubled s ≡ written (map (λ b. Byte b) s)
unfolding written
plain_written [] = refl
plain_written (b ∷ s) = ap (λ t. doubled b ++ t) (plain_written s)

piece_written : (p : FormatPiece) → spelled p ≡ written (marks_in p)
unfolding written marks_in
piece_written (piece.Plain s) = plain_written s
piece_written piece.Any = refl
piece_written piece.Dec = refl
piece_written piece.Hex = refl
piece_written piece.Oct = refl
piece_written piece.Char = refl

pub spelling-written : (ps : List FormatPiece) → spelling ps ≡ written (marks_of ps)
unfolding written marks_of
spelling-written [] = refl
spelling-written (p ∷ ps) =
    let e : spelled p ≡ flat_map mark_text (marks_in p) = piece_written p in
    let f : spelling ps ≡ flat_map mark_text (marks_of ps) = spelling-written ps in
    let g = flat_map-append mark_text (marks_in p) (marks_of ps) in
    cc

-- ---- back from marks

pub joined : ℕ → List FormatPiece → List FormatPiece
joined b [] = piece.Plain (b ∷ []) ∷ []
joined b (piece.Plain s ∷ ps) = piece.Plain (b ∷ s) ∷ ps
joined b (p ∷ ps) = piece.Plain (b ∷ []) ∷ p ∷ ps

pub gathered : List Mark → List FormatPiece
gathered [] = []
gathered (Byte b ∷ ms) = joined b (gathered ms)
gathered (Field f ∷ ms) = piece_of f ∷ gathered ms

begins_plain : List FormatPiece → Bool
begins_plain [] = false
begins_plain (piece.Plain s ∷ ps) = true
begins_plain (p ∷ ps) = false

after_plain : (ps : List FormatPiece) → are_whole true ps ≡ true → begins_plain ps ≡ false
unfolding begins_plain
after_plain [] h = refl
after_plain (piece.Plain s ∷ ps) h = absurd (cc)
after_plain (piece.Any ∷ ps) h = refl
after_plain (piece.Dec ∷ ps) h = refl
after_plain (piece.Hex ∷ ps) h = refl
after_plain (piece.Oct ∷ ps) h = refl
after_plain (piece.Char ∷ ps) h = refl

joined_first : (b : ℕ) (ps : List FormatPiece) → begins_plain ps ≡ false → joined b ps ≡ piece.Plain (b ∷ []) ∷ ps
unfolding begins_plain joined
joined_first b [] h = refl
joined_first b (piece.Plain s ∷ ps) h = absurd (cc)
joined_first b (piece.Any ∷ ps) h = refl
joined_first b (piece.Dec ∷ ps) h = refl
joined_first b (piece.Hex ∷ ps) h = refl
joined_first b (piece.Oct ∷ ps) h = refl
joined_first b (piece.Char ∷ ps) h = refl

gathered_plain : (b : ℕ) (s : List ℕ) (ms : List Mark) (ps : List FormatPiece) → gathered ms ≡ ps → begins_plain ps ≡ false → gathered (map (λ c. Byte c) (b ∷ s) ++ ms) ≡ piece.Plain (b ∷ s) ∷ ps
unfolding gathered joined
gathered_plain b [] ms ps e h = ap (joined b) e ∙ joined_first b ps h
gathered_plain b (c ∷ s) ms ps e h = ap (joined b) (gathered_plain c s ms ps e h)

pub gathered_marks : (after : Bool) (ps : List FormatPiece) → are_whole after ps ≡ true → gathered (marks_of ps) ≡ ps
unfolding gathered marks_of marks_in
gathered_marks after [] h = refl
gathered_marks after (piece.Plain [] ∷ ps) h =
    let k = both (not after && false) (are_whole true ps) h in
    let l = both (not after) false k.0 in
    absurd (cc (l.1))
gathered_marks after (piece.Plain (b ∷ s) ∷ ps) h =
    let k : are_whole true ps ≡ true = (both (not after && true) (are_whole true ps) h).1 in
    gathered_plain b s (marks_of ps) ps (gathered_marks true ps k) (after_plain ps k)
gathered_marks after (piece.Any ∷ ps) h = ap (λ qs. piece.Any ∷ qs) (gathered_marks false ps h)
gathered_marks after (piece.Dec ∷ ps) h = ap (λ qs. piece.Dec ∷ qs) (gathered_marks false ps h)
gathered_marks after (piece.Hex ∷ ps) h = ap (λ qs. piece.Hex ∷ qs) (gathered_marks false ps h)
gathered_marks after (piece.Oct ∷ ps) h = ap (λ qs. piece.Oct ∷ qs) (gathered_marks false ps h)
gathered_marks after (piece.Char ∷ ps) h = ap (λ qs. piece.Char ∷ qs) (gathered_marks false ps h)

pub same_pieces : (ps qs : List FormatPiece) → are_whole false ps ≡ true → are_whole false qs ≡ true → marks_of ps ≡ marks_of qs → ps ≡ qs
same_pieces ps qs h k e = sym (gathered_marks false ps h) ∙ ap gathered e ∙ gathered_marks false qs k
