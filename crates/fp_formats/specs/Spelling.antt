-- How a format is written, and what is wrong with a text that is none.
use Rattle.std.specs.Prelude.{◌≡◌, ℕ, Bool, true, false, not, ◌||◌, ◌==◌, List, [], ◌∷◌, ◌++◌, ◌⊎◌}
use Rattle.std.specs.List.{list_all}
use Rattle.fp_base.specs.declared.format.FormatPiece.{FormatPiece}
use Rattle.fp_base.specs.Formats.{is_brace, spelling, are_whole}
use Rattle.fp_formats.specs.declared.fault.FormatFault.{FormatFault}
use Rattle.fp_formats.specs.declared.fault.FormatFault.TheVariants as fault

-- the text spells these pieces
pub record IsFormat (text : List ℕ) (parts : List FormatPiece) : Type 0 where
  pub spells : text ≡ spelling parts
  pub whole : are_whole false parts ≡ true

abbrev pub has_no_brace : List ℕ → Bool
has_no_brace w = list_all (λ b. not (is_brace b)) w

-- what stands between the braces of a field: nothing, or one of d, x, o and c
abbrev pub is_form : List ℕ → Bool
is_form [] = true
is_form (b ∷ []) = (b == 100) || (b == 120) || (b == 111) || (b == 99)
is_form _ = false

-- behind what is a format stands a field of another form
pub record HasOtherField (text : List ℕ) : Type 0 where
  pub before : List FormatPiece
  pub inside : List ℕ
  pub after : List ℕ
  pub stands : text ≡ spelling before ++ (123 ∷ (inside ++ (125 ∷ after)))
  pub is_field : has_no_brace inside ≡ true
  pub is_other : is_form inside ≡ false

abbrev pub begins_with : ℕ → List ℕ → Bool
begins_with b [] = false
begins_with b (c ∷ cs) = c == b

-- a brace is part of no escape and begins no field
pub record IsLone (brace : ℕ) (after : List ℕ) : Type 0 where
  pub is_brace : is_brace brace ≡ true
  pub not_doubled : begins_with brace after ≡ false
  pub no_field : brace ≡ 123 → (inside rest : List ℕ) → has_no_brace inside ≡ true → after ≡ inside ++ (125 ∷ rest) → ⊥

-- behind what is a format stands a brace that is part of no field or escape
pub record HasLoneBrace (text : List ℕ) : Type 0 where
  pub before : List FormatPiece
  pub brace : ℕ
  pub after : List ℕ
  pub stands : text ≡ spelling before ++ (brace ∷ after)
  pub lone : IsLone brace after

-- why a text is refused; want of memory says nothing of it
abbrev pub IsCause : FormatFault → List ℕ → Type 0
IsCause fault.Field text = HasOtherField text
IsCause fault.Brace text = HasLoneBrace text
IsCause fault.NoMemory text = Unit {0}

abbrev pub OrNoMemory : FormatFault → FormatFault → Type 0
OrNoMemory wanted given = (given ≡ wanted) ⊎ (given ≡ fault.NoMemory)
