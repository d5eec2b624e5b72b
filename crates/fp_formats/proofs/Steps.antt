-- Reading a format mark by mark.
use Rattle.std.proofs.Common.{◌≡◌, ℕ, ◌<◌, Bool, true, false, cond, not, ◌&&◌, List, [], ◌∷◌, ◌++◌, refl, sym, ◌∙◌, ap, subst, append_assoc, append-nil, arith}
use Rattle.std.specs.Prelude.{flat_map}
use Rattle.std.specs.Str.{IsUtf8}
use Rattle.std.proofs.lemmas.Bool.Decides.{nat_tests}
use Rattle.std.proofs.lemmas.Grind.{flat_map-append}
use Rattle.fp_base.specs.declared.format.FormatPiece.{FormatPiece}
use Rattle.fp_base.specs.declared.format.FormatPiece.TheVariants as piece
use Rattle.fp_formats.specs.declared.fault.FormatFault.{FormatFault}
use Rattle.fp_formats.specs.declared.fault.FormatFault.TheVariants as fault
use Rattle.fp_formats.specs.declared.mark.Mark.{Mark}
use Rattle.fp_formats.specs.declared.mark.Mark.TheVariants.{Byte, Field}
use Rattle.fp_formats.specs.declared.mark.Form.{Form}
use Rattle.fp_formats.specs.declared.mark.Form.TheVariants as form
use Rattle.fp_base.specs.Formats.{is_brace, doubled, spelled, spelling, are_whole, is_empty_text}
use Rattle.fp_formats.specs.Spelling.{IsFormat, IsCause}
use Rattle.fp_formats.specs.Marks.{form_text, mark_text, pending, piece_of, pieces_with, plain_with, IsReady, IsStop}
use Rattle.fp_base.proofs.Bools.{both}
use Rattle.fp_formats.proofs.Utf8.{before_ascii, after_ascii, from_ascii}

-- the text is what was read so far and the rest
pub record Progress (text : List ℕ) (parts : List FormatPiece) (plain rest : List ℕ) : Type 0 where
  pub stands : text ≡ spelling (parts ++ pending plain) ++ rest
  pub whole : are_whole false parts ≡ true
  pub open_end : (b : ℕ) (s : List ℕ) → are_whole false (parts ++ (piece.Plain (b ∷ s) ∷ [])) ≡ true
  pub utf8 : IsUtf8 (plain ++ rest)

pub begun : (text : List ℕ) → IsUtf8 text → Progress text [] [] text
begun text u = record { stands = refl; whole = refl; open_end = λ b s. refl; utf8 = u }

pub whole_pending : (parts : List FormatPiece) (plain : List ℕ) → are_whole false parts ≡ true → ((b : ℕ) (s : List ℕ) → are_whole false (parts ++ (piece.Plain (b ∷ s) ∷ [])) ≡ true) → are_whole false (parts ++ pending plain) ≡ true
whole_pending parts [] w o = rw (append-nil parts) w
whole_pending parts (b ∷ s) w o = o b s

pub spelling_pending : (s : List ℕ) → spelling (pending s) ≡ flat_map doubled s
spelling_pending [] = refl
spelling_pending (b ∷ s) = append-nil (flat_map doubled (b ∷ s))

-- ---- a byte of plain text

spelled_byte : (parts : List FormatPiece) (plain rest : List ℕ) (b : ℕ) → spelling (parts ++ pending plain) ++ (doubled b ++ rest) ≡ spelling (parts ++ pending (plain ++ (b ∷ []))) ++ rest
spelled_byte parts plain rest b =
    let e = flat_map-append spelled parts (pending plain) in
    let f = flat_map-append spelled parts (pending (plain ++ (b ∷ []))) in
    let g = spelling_pending plain in
    let h = spelling_pending (plain ++ (b ∷ [])) in
    let i = flat_map-append doubled plain (b ∷ []) in
    let j : flat_map doubled (b ∷ []) ≡ doubled b = append-nil (doubled b) in
    rw (e, f, g, h, i, j) (shuffle (spelling parts) (flat_map doubled plain) (doubled b) rest)
  where
    shuffle : (p q r s : List ℕ) → (p ++ q) ++ (r ++ s) ≡ (p ++ (q ++ r)) ++ s
    shuffle p q r s = simp append_assoc

low_brace : (b : ℕ) → is_brace b ≡ true → b < 128
low_brace b h = grind (arith, nat_tests)

utf8_byte : (plain rest : List ℕ) (b : ℕ) → IsUtf8 (plain ++ (doubled b ++ rest)) → IsUtf8 ((plain ++ (b ∷ [])) ++ rest)
utf8_byte plain rest b = by (is_brace b) (low_brace b)
  where
    by : (t : Bool) → (t ≡ true → b < 128) → IsUtf8 (plain ++ (cond t (b ∷ b ∷ []) (b ∷ []) ++ rest)) → IsUtf8 ((plain ++ (b ∷ [])) ++ rest)
    by true low u = from_ascii plain rest b (low refl) u
    by false low u = subst IsUtf8 (sym (append_assoc plain (b ∷ []) rest)) u

-- ---- a field

whole_field : (after : Bool) (xs : List FormatPiece) (f : Form) (ys : List FormatPiece) → are_whole after xs ≡ true → are_whole false ys ≡ true → are_whole after (xs ++ (piece_of f ∷ ys)) ≡ true
whole_field after [] form.Any ys h k = k
whole_field after [] form.Dec ys h k = k
whole_field after [] form.Hex ys h k = k
whole_field after [] form.Oct ys h k = k
whole_field after [] form.Char ys h k = k
whole_field after (piece.Plain s ∷ xs) f ys h k =
    let p = both (not after && not (is_empty_text s)) (are_whole true xs) h in
    rw (p.0) (whole_field true xs f ys p.1 k)
whole_field after (piece.Any ∷ xs) f ys h k = whole_field false xs f ys h k
whole_field after (piece.Dec ∷ xs) f ys h k = whole_field false xs f ys h k
whole_field after (piece.Hex ∷ xs) f ys h k = whole_field false xs f ys h k
whole_field after (piece.Oct ∷ xs) f ys h k = whole_field false xs f ys h k
whole_field after (piece.Char ∷ xs) f ys h k = whole_field false xs f ys h k

spelled_field : (f : Form) → spelled (piece_of f) ≡ mark_text (Field f)
spelled_field form.Any = refl
spelled_field form.Dec = refl
spelled_field form.Hex = refl
spelled_field form.Oct = refl
spelled_field form.Char = refl

field_stands : (ps : List FormatPiece) (f : Form) (rest : List ℕ) → spelling ps ++ (mark_text (Field f) ++ rest) ≡ spelling ((ps ++ (piece_of f ∷ [])) ++ []) ++ rest
field_stands ps f rest =
    let e = append-nil (ps ++ (piece_of f ∷ [])) in
    let g = flat_map-append spelled ps (piece_of f ∷ []) in
    let j : flat_map spelled (piece_of f ∷ []) ≡ mark_text (Field f) = append-nil (spelled (piece_of f)) ∙ spelled_field f in
    rw (e, g, j) (sym (append_assoc (spelling ps) (mark_text (Field f)) rest))

field_bytes : (f : Form) (rest : List ℕ) → mark_text (Field f) ++ rest ≡ 123 ∷ (form_text f ++ (125 ∷ rest))
field_bytes f rest = ap (λ t. 123 ∷ t) (append_assoc (form_text f) (125 ∷ []) rest)

utf8_plain : (plain rest : List ℕ) (f : Form) → IsUtf8 (plain ++ (mark_text (Field f) ++ rest)) → IsUtf8 plain
utf8_plain plain rest f u =
    before_ascii plain (form_text f ++ (125 ∷ rest)) 123 (omega arith) (subst (λ t. IsUtf8 (plain ++ t)) (field_bytes f rest) u)

utf8_rest : (plain rest : List ℕ) (f : Form) → IsUtf8 (plain ++ (mark_text (Field f) ++ rest)) → IsUtf8 rest
utf8_rest plain rest f u =
    after_ascii (form_text f) rest 125 (omega arith)
    (after_ascii plain (form_text f ++ (125 ∷ rest)) 123 (omega arith) (subst (λ t. IsUtf8 (plain ++ t)) (field_bytes f rest) u))

-- ---- steps

pub ready : (text : List ℕ) (parts : List FormatPiece) (plain rest : List ℕ) (m : Mark) → Progress text parts plain (mark_text m ++ rest) → IsReady m plain
ready text parts plain rest (Byte b) p = tt
ready text parts plain rest (Field f) p = utf8_plain plain rest f p.utf8

pub step : (text : List ℕ) (parts : List FormatPiece) (plain rest : List ℕ) (m : Mark) → Progress text parts plain (mark_text m ++ rest) → Progress text (pieces_with m parts plain) (plain_with m plain) rest
step text parts plain rest (Byte b) p =
    record { stands = p.stands ∙ spelled_byte parts plain rest b; whole = p.whole; open_end = p.open_end; utf8 = utf8_byte plain rest b p.utf8 }
step text parts plain rest (Field f) p =
    let w = whole_pending parts plain p.whole p.open_end in
    record {
      stands = p.stands ∙ field_stands (parts ++ pending plain) f rest;
      whole = whole_field false (parts ++ pending plain) f [] w refl;
      open_end = λ b s. rw (append_assoc (parts ++ pending plain) (piece_of f ∷ []) (piece.Plain (b ∷ s) ∷ [])) (whole_field false (parts ++ pending plain) f (piece.Plain (b ∷ s) ∷ []) w refl);
      utf8 = utf8_rest plain rest f p.utf8;
    }

pub ended-utf8 : (text : List ℕ) (parts : List FormatPiece) (plain : List ℕ) → Progress text parts plain [] → IsUtf8 plain
ended-utf8 text parts plain p = subst IsUtf8 (append-nil plain) p.utf8

pub ended : (text : List ℕ) (parts : List FormatPiece) (plain : List ℕ) → Progress text parts plain [] → IsFormat text (parts ++ pending plain)
ended text parts plain p = record { spells = p.stands ∙ append-nil (spelling (parts ++ pending plain)); whole = whole_pending parts plain p.whole p.open_end }

pub stopped : (text : List ℕ) (parts : List FormatPiece) (plain rest : List ℕ) (given : FormatFault) → Progress text parts plain rest → IsStop given rest → IsCause given text
stopped text parts plain rest fault.Field p s =
    record { before = parts ++ pending plain; inside = s.inside; after = s.after; stands = p.stands ∙ ap (λ t. spelling (parts ++ pending plain) ++ t) s.stands; is_field = s.is_field; is_other = s.is_other }
stopped text parts plain rest fault.Brace p s =
    record { before = parts ++ pending plain; brace = s.brace; after = s.after; stands = p.stands ∙ ap (λ t. spelling (parts ++ pending plain) ++ t) s.stands; lone = s.lone }
stopped text parts plain rest fault.NoMemory p s = tt
