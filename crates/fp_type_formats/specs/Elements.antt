-- How the text of a format is read, from its beginning on, also where it is no format: behind a brace that is part of no field or escape the
-- reading goes on with the next byte. FPP Language Specification, "Format Strings".
use Rattle.std.specs.Prelude.{◌≡◌, ℕ, Bool, true, false, not, ◌&&◌, ◌||◌, List, [], ◌∷◌, ◌++◌, slice_get, Some}
use Rattle.std.specs.List.{list_any}
use Rattle.fp_base.specs.Formats.{is_brace, is_empty_text}
use Rattle.fp_formats.specs.Spelling.{has_no_brace, is_form, IsLone}

-- a byte that is no brace, a brace that stands twice, what stands between the braces of a field, and a brace that is part of none of these
pub data Element : Type 0 where
  plain : ℕ → Element
  escape : ℕ → Element
  field : List ℕ → Element
  lone : ℕ → Element

abbrev pub element_text : Element → List ℕ
element_text (plain b) = b ∷ []
element_text (escape b) = b ∷ b ∷ []
element_text (field inside) = 123 ∷ (inside ++ (125 ∷ []))
element_text (lone b) = b ∷ []

-- before what stands behind it
abbrev pub IsElement : Element → List ℕ → Type 0
IsElement (plain b) after = is_brace b ≡ false
IsElement (escape b) after = is_brace b ≡ true
IsElement (field inside) after = has_no_brace inside ≡ true
IsElement (lone b) after = IsLone b after

-- the text is these elements, one after another
abbrev pub IsReading : List Element → List ℕ → Type 0
IsReading [] text = text ≡ []
IsReading (e ∷ es) text = (after : List ℕ) × (text ≡ element_text e ++ after) × IsElement e after × IsReading es after

-- a field other than `{}`, `{d}`, `{x}`, `{o}` and `{c}`
abbrev pub is_other : Element → Bool
is_other (field inside) = not (is_form inside)
is_other _ = false

abbrev pub is_lone : Element → Bool
is_lone (lone b) = true
is_lone _ = false

-- what stands between the braces of the fields
abbrev pub fields_of : List Element → List (List ℕ)
fields_of [] = []
fields_of (field inside ∷ es) = inside ∷ fields_of es
fields_of (e ∷ es) = fields_of es

-- one of the last four forms of a field
abbrev pub prints_number : List ℕ → Bool
prints_number inside = is_form inside && not (is_empty_text inside)

-- the field k, counted from 0, prints a number, where what it prints is none
abbrev pub HasUnfitField : (ℕ → Type 0) → List Element → Type 0
HasUnfitField unfit es = (k : ℕ) × (inside : List ℕ) × (slice_get (fields_of es) k ≡ Some inside) × (prints_number inside ≡ true) × unfit k

-- it is no format, so that nothing is said of how many fields it has
abbrev pub is_malformed : List Element → Bool
is_malformed es = list_any is_other es || list_any is_lone es
