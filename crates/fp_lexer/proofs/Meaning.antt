-- Bytes at a place are one piece at most.
use Rattle.std.proofs.Common.{◌≡◌, ℕ, ◌+◌, List, [], ◌∷◌, ◌++◌, drop, slice_get, Some, None, Option, sym, ap, ◌∙◌, arith, suc, zero, refl, cond, true, false, Bool, ◌&&◌, ◌||◌, inl, inr}
use Rattle.std.specs.Prelude.{◌==◌}
use Rattle.std.specs.Str.{bytes_eq}
use Rattle.std.proofs.lemmas.Bool.{eqb-true}
use Rattle.std.proofs.lemmas.Slice.Eq.{bytes_eq-Decides}
use Rattle.std.proofs.lemmas.Option.{same_Some}
use Rattle.fp_lexer.specs.Words.{words, marks}
use Rattle.fp_base.specs.Names.{is_name}
use Rattle.fp_base.proofs.Bools.{and_left, and_right}
use Rattle.fp_lexer.specs.Tokens.{Spelled, Spells}
use Rattle.fp_lexer.specs.declared.token.Word.{Word}
use Rattle.fp_lexer.specs.declared.token.Word.TheVariants.{Name, Reserved, Number, Float, Str, Mark, Newline, Before, After}
use Rattle.fp_lexer.proofs.Runs.{bool_cases, cond_true, cond_false}
use Rattle.fp_lexer.proofs.FirstBytes.{digit_first, number_first, hex_first, float_first}
use Rattle.fp_lexer.proofs.Lined.{lined_same, not_spelled}
use Rattle.fp_lexer.proofs.Numbers.{numeral_of, numeral_same}

-- the first place of w in a table, counted from k
abbrev place : List ℕ → ℕ → List (List ℕ) → Option ℕ
place w k [] = None
place w k (x ∷ xs) = cond (bytes_eq w x) (Some k) (place w (suc k) xs)

abbrev as_word : (ℕ → Word) → Option ℕ → Word → Option Word
as_word f None other = Some other
as_word f (Some k) other = Some (f k)

abbrev as_mark : Option ℕ → Option Word
as_mark None = None
as_mark (Some k) = Some (Mark k)

-- a `$` and a name
abbrev is_dollar : List ℕ → Bool
is_dollar [] = false
is_dollar (b ∷ bs) = b == 36 && is_name bs

-- the one meaning of bytes that begin with no digit
abbrev meaning : List ℕ → Option Word
meaning w =
    cond (is_name w) (as_word (λ k. Reserved k) (place w 0 words) (Name w)) (
    cond (is_dollar w) (Some (Name (drop 1 w))) (
    cond (bytes_eq w (10 ∷ []) || bytes_eq w (13 ∷ 10 ∷ [])) (Some Newline) (as_mark (place w 0 marks))))

abbrev is_some_word : Option Word → ℕ → Bool
is_some_word (Some (Reserved k)) n = k == n
is_some_word w n = false

abbrev is_some_mark : Option Word → ℕ → Bool
is_some_mark (Some (Mark k)) n = k == n
is_some_mark w n = false

-- each entry of a table, counted from k, has its number
abbrev numbered : (Option Word → ℕ → Bool) → ℕ → List (List ℕ) → Bool
numbered p k [] = true
numbered p k (w ∷ ws) = p (meaning w) k && numbered p (k + 1) ws

numbered_at : (p : Option Word → ℕ → Bool) (ws : List (List ℕ)) (k n : ℕ) (w : List ℕ) → numbered p k ws ≡ true → slice_get ws n ≡ Some w → p (meaning w) (k + n) ≡ true
numbered_at p [] k n w a e = cc
numbered_at p (x ∷ xs) k zero w a e =
    let h : x ≡ w = same_Some x w e in
    ap (λ (i : ℕ). p (meaning w) i) (omega arith) ∙ ap (λ (v : List ℕ). p (meaning v) k) (sym h) ∙ and_left (p (meaning x) k) (numbered p (k + 1) xs) a
numbered_at p (x ∷ xs) k (suc n) w a e =
    ap (λ (i : ℕ). p (meaning w) i) (omega arith) ∙ numbered_at p xs (k + 1) n w (and_right (p (meaning x) k) (numbered p (k + 1) xs) a) e

words_numbered : numbered is_some_word 0 words ≡ true
words_numbered = refl

marks_numbered : numbered is_some_mark 0 marks ≡ true
marks_numbered = refl

word_from : (m : Option Word) (k : ℕ) → is_some_word m (0 + k) ≡ true → m ≡ Some (Reserved k)
word_from None k e = cc
word_from (Some (Name s)) k e = cc
word_from (Some (Reserved j)) k e = let h = eqb-true j (0 + k) e in ap (λ (i : ℕ). Some (Reserved i)) (omega arith)
word_from (Some (Number n)) k e = cc
word_from (Some (Mark n)) k e = cc
word_from (Some Newline) k e = cc
word_from (Some Float) k e = cc
word_from (Some (Str t)) k e = cc
word_from (Some (Before t)) k e = cc
word_from (Some (After t)) k e = cc

mark_from : (m : Option Word) (k : ℕ) → is_some_mark m (0 + k) ≡ true → m ≡ Some (Mark k)
mark_from None k e = cc
mark_from (Some (Name s)) k e = cc
mark_from (Some (Mark j)) k e = let h = eqb-true j (0 + k) e in ap (λ (i : ℕ). Some (Mark i)) (omega arith)
mark_from (Some (Number n)) k e = cc
mark_from (Some (Reserved n)) k e = cc
mark_from (Some Newline) k e = cc
mark_from (Some Float) k e = cc
mark_from (Some (Str t)) k e = cc
mark_from (Some (Before t)) k e = cc
mark_from (Some (After t)) k e = cc

no_place : (w : List ℕ) (k : ℕ) (ws : List (List ℕ)) → ((n : ℕ) → slice_get ws n ≡ Some w → ⊥) → place w k ws ≡ None
no_place w k [] f = refl
no_place w k (x ∷ xs) f = bool_cases (bytes_eq w x) _
    (λ e. absurd (f 0 (ap (λ (v : List ℕ). Some v) (sym ((bytes_eq-Decides w x).0 e)))))
    (λ e. cond_false (bytes_eq w x) (Some k) (place w (suc k) xs) e ∙ no_place w (suc k) xs (λ n h. f (suc n) h))

not_first : (w : List ℕ) (P : Type 0) → digit_first w ≡ true → digit_first w ≡ false → P
not_first w P e f = let h : true ≡ false = sym e ∙ f in cc

-- a piece has one meaning
meant : (w : List ℕ) (what : Option Word) → Spelled w what → digit_first w ≡ false → meaning w ≡ what
meant w None s d = elim s [ inl h ↦ ap meaning h | inr s ↦ elim s [ inl h ↦ ap meaning h | inr s ↦ elim s [ inl h ↦ ap meaning h | inr h ↦ ap meaning h ] ] ]
meant w (Some Newline) s d = elim s [ inl h ↦ ap meaning h | inr h ↦ ap meaning h ]
meant w (Some (Name n)) s d = elim s.1 [
  | inl h ↦ ap meaning h.0 ∙ cond_true (is_name n) _ _ s.0 ∙ ap (λ (o : Option ℕ). as_word (λ k. Reserved k) o (Name n)) (no_place n 0 words h.1)
  | inr h ↦ ap meaning h ∙ cond_true (is_name n) (Some (Name n)) _ s.0
]
meant w (Some (Reserved k)) s d = word_from (meaning w) k (numbered_at is_some_word words 0 k w words_numbered s)
meant w (Some (Mark k)) s d = mark_from (meaning w) k (numbered_at is_some_mark marks 0 k w marks_numbered s)
meant w (Some (Number n)) s d = elim s [ inl h ↦ not_first w _ (number_first w h.1) d | inr h ↦ not_first w _ (hex_first w h.1) d ]
meant w (Some Float) s d = not_first w _ (float_first w s) d
meant w (Some (Str t)) s d = absurd s
meant w (Some (Before t)) s d = absurd s
meant w (Some (After t)) s d = absurd s

pub spelled_same : (w : List ℕ) (a b : Option Word) → Spelled w a → Spelled w b → a ≡ b
spelled_same w a b s t = bool_cases (digit_first w) _
    (λ e. numeral_same w a b (numeral_of w a s e) (numeral_of w b t e))
    (λ e. sym (meant w a s e) ∙ meant w b t e)

-- bytes at a place are one piece at most
pub what_same : (indent : ℕ) (rest w more : List ℕ) (a b : Option Word) → rest ≡ w ++ more → Spells indent rest w a → Spells indent rest w b → a ≡ b
what_same indent rest w more a b e s t = elim s [
  | inl p ↦ elim t [ inl q ↦ spelled_same w a b p q | inr q ↦ not_spelled indent rest w w more b a _ q e p ]
  | inr p ↦ elim t [ inl q ↦ not_spelled indent rest w w more a b _ p e q | inr q ↦ (lined_same indent rest w w a b p q).1 ]
]
