-- A reading in which nothing is wrong spells the pieces of a format.
use Rattle.std.specs.Prelude.{flat_map}
use Rattle.std.specs.List.{list_any}
use Rattle.std.proofs.Common.{◌≡◌, ℕ, suc, ◌⊎◌, inl, inr, Bool, true, false, cond, not, ◌&&◌, ◌==◌, List, [], ◌∷◌, ◌++◌, length, slice_get, Some, refl, sym, ◌∙◌, ap, append_assoc, append-nil, arith}
use Rattle.fp_base.proofs.Bools.{both, join, neither, not_both}
use Rattle.fp_base.proofs.Numbers.{same_number}
use Rattle.fp_base.specs.declared.format.FormatPiece.{FormatPiece}
use Rattle.fp_base.specs.declared.format.FormatPiece.TheVariants as piece
use Rattle.fp_base.specs.declared.value.Value.{Value}
use Rattle.fp_base.specs.Formats.{is_brace, doubled, spelled, spelling, are_whole, is_empty_text}
use Rattle.fp_formats.specs.Fits.{fits, is_integer, takes}
use Rattle.fp_formats.specs.Spelling.{is_form, IsFormat}
use Rattle.fp_type_formats.specs.Elements.{Element, plain, escape, field, lone, element_text, fields_of, is_lone, is_other, prints_number, IsReading}
use Rattle.fp_type_formats.specs.Readable.{Agree}

form_piece : List ℕ → FormatPiece
form_piece [] = piece.Any
form_piece (b ∷ w) = cond (b == 100) piece.Dec (cond (b == 120) piece.Hex (cond (b == 111) piece.Oct piece.Char))

with_byte : ℕ → List FormatPiece → List FormatPiece
with_byte b [] = piece.Plain (b ∷ []) ∷ []
with_byte b (piece.Plain s ∷ ps) = piece.Plain (b ∷ s) ∷ ps
with_byte b (p ∷ ps) = piece.Plain (b ∷ []) ∷ p ∷ ps

pub pieces_of : List Element → List FormatPiece
pieces_of [] = []
pieces_of (plain b ∷ es) = with_byte b (pieces_of es)
pieces_of (escape b ∷ es) = with_byte b (pieces_of es)
pieces_of (field w ∷ es) = form_piece w ∷ pieces_of es
pieces_of (lone b ∷ es) = pieces_of es

-- ---- one element

spelled_byte : (b : ℕ) (ps : List FormatPiece) → spelling (with_byte b ps) ≡ doubled b ++ spelling ps
unfolding with_byte
spelled_byte b [] = append-nil (doubled b ++ []) ∙ refl
spelled_byte b (piece.Plain s ∷ ps) = append_assoc (doubled b) (flat_map doubled s) (spelling ps)
spelled_byte b (piece.Any ∷ ps) = ap (λ (t : List ℕ). t ++ spelling (piece.Any ∷ ps)) (append-nil (doubled b))
spelled_byte b (piece.Dec ∷ ps) = ap (λ (t : List ℕ). t ++ spelling (piece.Dec ∷ ps)) (append-nil (doubled b))
spelled_byte b (piece.Hex ∷ ps) = ap (λ (t : List ℕ). t ++ spelling (piece.Hex ∷ ps)) (append-nil (doubled b))
spelled_byte b (piece.Oct ∷ ps) = ap (λ (t : List ℕ). t ++ spelling (piece.Oct ∷ ps)) (append-nil (doubled b))
spelled_byte b (piece.Char ∷ ps) = ap (λ (t : List ℕ). t ++ spelling (piece.Char ∷ ps)) (append-nil (doubled b))

whole_byte : (b : ℕ) (ps : List FormatPiece) → are_whole false ps ≡ true → are_whole false (with_byte b ps) ≡ true
unfolding with_byte
whole_byte b [] h = refl
whole_byte b (piece.Plain s ∷ ps) h = (both (not false && not (is_empty_text s)) (are_whole true ps) h).1
whole_byte b (piece.Any ∷ ps) h = h
whole_byte b (piece.Dec ∷ ps) h = h
whole_byte b (piece.Hex ∷ ps) h = h
whole_byte b (piece.Oct ∷ ps) h = h
whole_byte b (piece.Char ∷ ps) h = h

fits_byte : (b : ℕ) (ps : List FormatPiece) (vs : List Value) → fits (with_byte b ps) vs ≡ fits ps vs
unfolding with_byte
fits_byte b [] vs = refl
fits_byte b (piece.Plain s ∷ ps) vs = refl
fits_byte b (piece.Any ∷ ps) vs = refl
fits_byte b (piece.Dec ∷ ps) vs = refl
fits_byte b (piece.Hex ∷ ps) vs = refl
fits_byte b (piece.Oct ∷ ps) vs = refl
fits_byte b (piece.Char ∷ ps) vs = refl

-- what is known of one of four pieces is known of the piece of a form
letter_by : (P : FormatPiece → Type 0) (b : ℕ) → ((b == 100) ≡ true → P piece.Dec) → ((b == 120) ≡ true → P piece.Hex) → ((b == 111) ≡ true → P piece.Oct)
    → ((b == 100) ≡ false → (b == 120) ≡ false → (b == 111) ≡ false → P piece.Char) → P (cond (b == 100) piece.Dec (cond (b == 120) piece.Hex (cond (b == 111) piece.Oct piece.Char)))
letter_by P b dec hex oct char = go (b == 100) (b == 120) (b == 111) dec hex oct char
  where
    go : (x y z : Bool) → (x ≡ true → P piece.Dec) → (y ≡ true → P piece.Hex) → (z ≡ true → P piece.Oct) → (x ≡ false → y ≡ false → z ≡ false → P piece.Char)
        → P (cond x piece.Dec (cond y piece.Hex (cond z piece.Oct piece.Char)))
    go true y z d h o c = d refl
    go false true z d h o c = h refl
    go false false true d h o c = o refl
    go false false false d h o c = c refl refl refl

last_letter : (b : ℕ) → is_form (b ∷ []) ≡ true → (b == 100) ≡ false → (b == 120) ≡ false → (b == 111) ≡ false → (b == 99) ≡ true
last_letter b h p q r = rw (p, q, r) at h

letter_text : ℕ → FormatPiece → Type 0
letter_text b p = spelled p ≡ 123 ∷ b ∷ 125 ∷ []

spelled_letter : (b : ℕ) → is_form (b ∷ []) ≡ true → letter_text b (cond (b == 100) piece.Dec (cond (b == 120) piece.Hex (cond (b == 111) piece.Oct piece.Char)))
unfolding letter_text
spelled_letter b h =
    letter_by (letter_text b) b
    (λ e. ap (λ (n : ℕ). 123 ∷ n ∷ 125 ∷ []) (sym (same_number b 100 e)))
    (λ e. ap (λ (n : ℕ). 123 ∷ n ∷ 125 ∷ []) (sym (same_number b 120 e)))
    (λ e. ap (λ (n : ℕ). 123 ∷ n ∷ 125 ∷ []) (sym (same_number b 111 e)))
    (λ p q r. ap (λ (n : ℕ). 123 ∷ n ∷ 125 ∷ []) (sym (same_number b 99 (last_letter b h p q r))))

spelled_form : (w : List ℕ) → is_form w ≡ true → spelled (form_piece w) ≡ 123 ∷ (w ++ (125 ∷ []))
unfolding form_piece letter_text
spelled_form [] h = refl
spelled_form (b ∷ []) h = spelled_letter b h
spelled_form (b ∷ c ∷ w) h = absurd (cc)

whole_form : (w : List ℕ) (ps : List FormatPiece) → are_whole false ps ≡ true → are_whole false (form_piece w ∷ ps) ≡ true
unfolding form_piece
whole_form [] ps h = h
whole_form (b ∷ w) ps h = letter_by (λ (p : FormatPiece). are_whole false (p ∷ ps) ≡ true) b (λ e. h) (λ e. h) (λ e. h) (λ p q r. h)

-- a field takes an integer, and `{}` takes any value
form_takes : (w : List ℕ) (v : Value) (ps : List FormatPiece) → (is_empty_text w ≡ true) ⊎ (is_integer v ≡ true) → fits ps [] ≡ true → fits (form_piece w ∷ ps) (v ∷ []) ≡ true
unfolding form_piece
form_takes [] v ps o h = h
form_takes (b ∷ w) v ps (inl e) h = absurd (cc)
form_takes (b ∷ w) v ps (inr e) h = letter_by (λ (p : FormatPiece). fits (p ∷ ps) (v ∷ []) ≡ true) b (λ x. rw e h) (λ x. rw e h) (λ x. rw e h) (λ p q r. rw e h)

-- ---- all elements

abbrev pub IsClean : List Element → Type 0
IsClean es = (list_any is_other es ≡ false) × (list_any is_lone es ≡ false)

clean_rest : (e : Element) (es : List Element) → IsClean (e ∷ es) → IsClean es
clean_rest e es h = ((neither (is_other e) (list_any is_other es) h.0).1, (neither (is_lone e) (list_any is_lone es) h.1).1)

good_form : (w : List ℕ) → not (is_form w) ≡ false → is_form w ≡ true
good_form w h = go (is_form w) h
  where
    go : (b : Bool) → not b ≡ false → b ≡ true
    go true e = refl
    go false e = absurd (cc)

doubled_no_brace : (b : ℕ) → is_brace b ≡ false → doubled b ≡ b ∷ []
doubled_no_brace b h = ap (λ (t : Bool). cond t (b ∷ b ∷ []) (b ∷ [])) h

doubled_brace : (b : ℕ) → is_brace b ≡ true → doubled b ≡ b ∷ b ∷ []
doubled_brace b h = ap (λ (t : Bool). cond t (b ∷ b ∷ []) (b ∷ [])) h

spelled_all : (es : List Element) (text : List ℕ) → IsReading es text → IsClean es → text ≡ spelling (pieces_of es)
unfolding pieces_of
spelled_all [] text h k = h
spelled_all (plain b ∷ es) text h k =
    h.1 ∙ ap (λ (t : List ℕ). b ∷ t) (spelled_all es h.0 h.3 (clean_rest (plain b) es k)) ∙ ap (λ (t : List ℕ). t ++ spelling (pieces_of es)) (sym (doubled_no_brace b h.2)) ∙ sym (spelled_byte b (pieces_of es))
spelled_all (escape b ∷ es) text h k =
    h.1 ∙ ap (λ (t : List ℕ). b ∷ b ∷ t) (spelled_all es h.0 h.3 (clean_rest (escape b) es k)) ∙ ap (λ (t : List ℕ). t ++ spelling (pieces_of es)) (sym (doubled_brace b h.2)) ∙ sym (spelled_byte b (pieces_of es))
spelled_all (field w ∷ es) text h k =
    h.1 ∙ ap (λ (t : List ℕ). element_text (field w) ++ t) (spelled_all es h.0 h.3 (clean_rest (field w) es k))
    ∙ ap (λ (t : List ℕ). t ++ spelling (pieces_of es)) (sym (spelled_form w (good_form w (neither (not (is_form w)) (list_any is_other es) k.0).0)))
spelled_all (lone b ∷ es) text h k = not_both refl k.1

whole_all : (es : List Element) → are_whole false (pieces_of es) ≡ true
unfolding pieces_of
whole_all [] = refl
whole_all (plain b ∷ es) = whole_byte b (pieces_of es) (whole_all es)
whole_all (escape b ∷ es) = whole_byte b (pieces_of es) (whole_all es)
whole_all (field w ∷ es) = whole_form w (pieces_of es) (whole_all es)
whole_all (lone b ∷ es) = whole_all es

fits_none : (es : List Element) → length (fields_of es) ≡ 0 → fits (pieces_of es) [] ≡ true
unfolding pieces_of
fits_none [] h = refl
fits_none (plain b ∷ es) h = fits_byte b (pieces_of es) [] ∙ fits_none es h
fits_none (escape b ∷ es) h = fits_byte b (pieces_of es) [] ∙ fits_none es h
fits_none (field w ∷ es) h = absurd (omega (arith, h))
fits_none (lone b ∷ es) h = fits_none es h

plain_form : (w : List ℕ) → is_form w ≡ true → (prints_number w ≡ true → ⊥) → is_empty_text w ≡ true
plain_form [] h k = refl
plain_form (b ∷ w) h k = absurd (k (join (is_form (b ∷ w)) true h refl))

-- no field prints a number
abbrev pub PrintNoNumber : List Element → Type 0
PrintNoNumber es = (k : ℕ) (w : List ℕ) → slice_get (fields_of es) k ≡ Some w → prints_number w ≡ true → ⊥

pub fits_one : (v : Value) (es : List Element) → IsClean es → length (fields_of es) ≡ 1 → PrintNoNumber es ⊎ (is_integer v ≡ true) → fits (pieces_of es) (v ∷ []) ≡ true
unfolding pieces_of
fits_one v [] k h o = absurd (omega (arith, h))
fits_one v (plain b ∷ es) k h o = fits_byte b (pieces_of es) (v ∷ []) ∙ fits_one v es (clean_rest (plain b) es k) h o
fits_one v (escape b ∷ es) k h o = fits_byte b (pieces_of es) (v ∷ []) ∙ fits_one v es (clean_rest (escape b) es k) h o
fits_one v (field w ∷ es) k h (inr o) = let z : length (fields_of es) ≡ 0 = omega (arith, h) in form_takes w v (pieces_of es) (inr o) (fits_none es z)
fits_one v (field w ∷ es) k h (inl o) =
    let z : length (fields_of es) ≡ 0 = omega (arith, h) in
    let good = good_form w (neither (not (is_form w)) (list_any is_other es) k.0).0 in
    form_takes w v (pieces_of es) (inl (plain_form w good (o 0 w refl))) (fits_none es z)
fits_one v (lone b ∷ es) k h o = not_both refl k.1

-- ---- one value for each field

module _ {A : Type 0} (NoInteger : A → Type 0) where
  agree_byte : (b : ℕ) (ps : List FormatPiece) (xs : List A) → Agree NoInteger ps xs → Agree NoInteger (with_byte b ps) xs
  unfolding with_byte
  agree_byte b [] xs h = h
  agree_byte b (piece.Plain s ∷ ps) xs h = h
  agree_byte b (piece.Any ∷ ps) xs h = h
  agree_byte b (piece.Dec ∷ ps) xs h = h
  agree_byte b (piece.Hex ∷ ps) xs h = h
  agree_byte b (piece.Oct ∷ ps) xs h = h
  agree_byte b (piece.Char ∷ ps) xs h = h

  agree_form : (w : List ℕ) (ps : List FormatPiece) (x : A) (xs : List A) → (is_empty_text w ≡ false → NoInteger x → ⊥) → Agree NoInteger ps xs → Agree NoInteger (form_piece w ∷ ps) (x ∷ xs)
  unfolding form_piece
  agree_form [] ps x xs o h = (tt, h)
  agree_form (b ∷ w) ps x xs o h = letter_by (λ (p : FormatPiece). Agree NoInteger (p ∷ ps) (x ∷ xs)) b (λ e. (o refl, h)) (λ e. (o refl, h)) (λ e. (o refl, h)) (λ p q r. (o refl, h))

  number_form : (w : List ℕ) → is_form w ≡ true → is_empty_text w ≡ false → prints_number w ≡ true
  number_form w h e = join (is_form w) (not (is_empty_text w)) h (ap not e)

  -- a field that prints a number is of an integer
  abbrev PrintIntegers : List Element → List A → Type 0
  PrintIntegers es xs = (k : ℕ) (w : List ℕ) (x : A) → slice_get (fields_of es) k ≡ Some w → prints_number w ≡ true → slice_get xs k ≡ Some x → NoInteger x → ⊥

  pub agree_all : (es : List Element) (xs : List A) → IsClean es → length (fields_of es) ≡ length xs → PrintIntegers es xs → Agree NoInteger (pieces_of es) xs
  unfolding pieces_of
  agree_all [] [] k h o = tt
  agree_all [] (x ∷ xs) k h o = absurd (omega (arith, h))
  agree_all (plain b ∷ es) xs k h o = agree_byte b (pieces_of es) xs (agree_all es xs (clean_rest (plain b) es k) h o)
  agree_all (escape b ∷ es) xs k h o = agree_byte b (pieces_of es) xs (agree_all es xs (clean_rest (escape b) es k) h o)
  agree_all (field w ∷ es) [] k h o = absurd (omega (arith, h))
  agree_all (field w ∷ es) (x ∷ xs) k h o =
      let good = good_form w (neither (not (is_form w)) (list_any is_other es) k.0).0 in
      agree_form w (pieces_of es) x xs (λ e. o 0 w x refl (number_form w good e) refl)
      (agree_all es xs (clean_rest (field w) es k) (omega (arith, h)) (λ j. o (suc j)))
  agree_all (lone b ∷ es) xs k h o = not_both refl k.1

pub format_of : (es : List Element) (text : List ℕ) → IsReading es text → IsClean es → IsFormat text (pieces_of es)
format_of es text h k = record { spells = spelled_all es text h k; whole = whole_all es }
