-- What each piece looks like by its first byte.
use Rattle.std.proofs.Common.{◌≡◌, ℕ, List, [], ◌∷◌, ◌++◌, Some, None, Option, ap, ◌∙◌, arith, refl, cond, true, false, Bool, ◌&&◌, ◌||◌, inl, inr}
use Rattle.std.specs.Prelude.{◌==◌}
use Rattle.std.specs.List.{list_all}
use Rattle.std.specs.Option.{is_some}
use Rattle.std.proofs.lemmas.Bool.{eqb-true}
use Rattle.std.proofs.lemmas.Bool.Decides.{nat_tests}
use Rattle.fp_base.proofs.Lists.{all_get}
use Rattle.fp_base.specs.Names.{is_letter, is_digit, is_name_byte, is_name}
use Rattle.fp_base.proofs.Bools.{and_left, and_right}
use Rattle.fp_lexer.specs.Words.{words, marks}
use Rattle.fp_lexer.specs.Scan.{one_mark}
use Rattle.fp_lexer.specs.Tokens.{IsFloat, is_hex, is_hex_tail, Spelled, is_number}
use Rattle.fp_lexer.specs.declared.token.Word.{Word}
use Rattle.fp_lexer.specs.declared.token.Word.TheVariants.{Name, Reserved, Number, Float, Str, Mark, Newline, Before, After}
use Rattle.fp_lexer.proofs.Runs.{cond_true, cond_false}

abbrev pub is_empty : List ℕ → Bool
is_empty [] = true
is_empty (b ∷ bs) = false

-- the list is this one byte
abbrev pub is_one : ℕ → List ℕ → Bool
is_one b [] = false
is_one b (c ∷ cs) = c == b && is_empty cs

-- the list is these two bytes
abbrev pub is_two : ℕ → ℕ → List ℕ → Bool
is_two b c [] = false
is_two b c (x ∷ xs) = x == b && is_one c xs

abbrev pub is_single : ℕ → Bool
is_single b = b == 32 || (b == 9 || (b == 10 || is_some (one_mark b)))

-- what may follow a first byte that is no letter and no digit
abbrev pub ends_other : ℕ → List ℕ → Bool
ends_other b u = cond (b == 13) (is_one 10 u) (cond (b == 45) (is_empty u || is_one 62 u) (is_single b && is_empty u))

-- what may follow a first byte that is no letter, no digit
abbrev pub ends_sign : ℕ → List ℕ → Bool
ends_sign b u = cond (b == 36) (is_name u) (cond (b == 92) (is_one 10 u || is_two 13 10 u) (ends_other b u))

-- what may follow a first byte; of a digit anything may, since the forms of numbers are told apart below
abbrev pub ends : ℕ → List ℕ → Bool
ends b u = cond (is_letter b) (list_all is_name_byte u) (cond (is_digit b) true (ends_sign b u))

abbrev pub shape : List ℕ → Bool
shape [] = false
shape (b ∷ u) = ends b u

pub digit_no_letter : (b : ℕ) → is_digit b ≡ true → is_letter b ≡ false
digit_no_letter b e = grind (arith, nat_tests)

pub ends_letter : (b : ℕ) (u : List ℕ) → is_letter b ≡ true → ends b u ≡ list_all is_name_byte u
ends_letter b u e = cond_true (is_letter b) (list_all is_name_byte u) (cond (is_digit b) true (ends_sign b u)) e

pub ends_digit : (b : ℕ) (u : List ℕ) → is_digit b ≡ true → ends b u ≡ true
ends_digit b u e = cond_false (is_letter b) (list_all is_name_byte u) (cond (is_digit b) true (ends_sign b u)) (digit_no_letter b e)
    ∙ cond_true (is_digit b) true (ends_sign b u) e

pub ends_rest : (b : ℕ) (u : List ℕ) → is_letter b ≡ false → is_digit b ≡ false → (b == 36) ≡ false → (b == 92) ≡ false → ends b u ≡ ends_other b u
ends_rest b u e f d k = cond_false (is_letter b) (list_all is_name_byte u) (cond (is_digit b) true (ends_sign b u)) e
    ∙ cond_false (is_digit b) true (ends_sign b u) f ∙ cond_false (b == 36) (is_name u) _ d ∙ cond_false (b == 92) (is_one 10 u || is_two 13 10 u) (ends_other b u) k

name_shape : (w : List ℕ) → is_name w ≡ true → shape w ≡ true
name_shape [] e = cc
name_shape (b ∷ u) e = ends_letter b u (and_left _ _ e) ∙ and_right _ _ e

-- it begins with a digit
abbrev pub digit_first : List ℕ → Bool
digit_first [] = false
digit_first (b ∷ bs) = is_digit b

pub number_first : (w : List ℕ) → is_number w ≡ true → digit_first w ≡ true
number_first [] e = cc
number_first (b ∷ u) e = and_left (is_digit b) (list_all is_digit u) e

pub hex_first : (w : List ℕ) → is_hex w ≡ true → digit_first w ≡ true
hex_first [] e = cc
hex_first (b ∷ u) e = ap is_digit (eqb-true b 48 (and_left (b == 48) (is_hex_tail u) e))

front_first : (ds more : List ℕ) → is_number ds ≡ true → digit_first (ds ++ more) ≡ true
front_first [] more e = cc
front_first (b ∷ u) more e = and_left (is_digit b) (list_all is_digit u) e

pub float_first : (w : List ℕ) → IsFloat w → digit_first w ≡ true
float_first w i = ap digit_first i.3 ∙ front_first i.0 (i.1 ++ i.2) i.4

first_shape : (w : List ℕ) → digit_first w ≡ true → shape w ≡ true
first_shape [] e = cc
first_shape (b ∷ u) e = ends_digit b u e

words_shape : list_all shape words ≡ true
words_shape = refl

marks_shape : list_all shape marks ≡ true
marks_shape = refl

at_equal : (v w : List ℕ) → v ≡ w → shape w ≡ true → shape v ≡ true
at_equal v w e h = ap shape e ∙ h

-- each piece has a shape
pub shaped : (v : List ℕ) (what : Option Word) → Spelled v what → shape v ≡ true
shaped v None h = elim h [ inl e ↦ at_equal _ _ e refl | inr h ↦ elim h [ inl e ↦ at_equal _ _ e refl | inr h ↦ elim h [ inl e ↦ at_equal _ _ e refl | inr e ↦ at_equal _ _ e refl ] ] ]
shaped v (Some (Name s)) h = elim h.1 [ inl e ↦ at_equal _ _ e.0 (name_shape s h.0) | inr e ↦ at_equal _ _ e h.0 ]
shaped v (Some (Reserved k)) h = all_get shape words k v words_shape h
shaped v (Some (Number n)) h = elim h [ inl e ↦ first_shape v (number_first v e.1) | inr e ↦ first_shape v (hex_first v e.1) ]
shaped v (Some (Mark k)) h = all_get shape marks k v marks_shape h
shaped v (Some Newline) h = elim h [ inl e ↦ at_equal _ _ e refl | inr e ↦ at_equal _ _ e refl ]
shaped v (Some Float) h = first_shape v (float_first v h)
shaped v (Some (Str s)) h = absurd h
shaped v (Some (Before s)) h = absurd h
shaped v (Some (After s)) h = absurd h
