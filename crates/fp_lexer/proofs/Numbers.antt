-- The forms of numbers, and the longest that begins at a place.
use Rattle.std.proofs.Common.{◌≡◌, ℕ, ◌≤◌, ◌<◌, ◌+◌, ◌⊎◌, List, [], ◌∷◌, ◌++◌, length, take, drop, get_or, Some, None, Option, sym, ap, ◌∙◌, arith, refl, true, false, Bool, ◌&&◌, ◌||◌, not, inl, inr, pos, take-append-drop, length-take}
use Rattle.std.specs.Prelude.{◌==◌}
use Rattle.std.specs.List.{list_all, prefix_len}
use Rattle.std.proofs.lemmas.Bool.{eqb-true}
use Rattle.std.proofs.lemmas.Bool.Decides.{nat_tests}
use Rattle.std.proofs.lemmas.List.Sums.{prefix_len-le-length}
use Rattle.fp_base.proofs.Lists.{all_get}
use Rattle.fp_base.specs.Names.{is_letter, is_digit, is_name_byte, is_name}
use Rattle.fp_base.proofs.Bools.{and_left, and_right}
use Rattle.fp_lexer.specs.Bytes.{is_hex_digit}
use Rattle.fp_lexer.specs.Words.{words, marks}
use Rattle.fp_lexer.specs.Scan.{hex_starts, tail_len, float_len}
use Rattle.fp_lexer.specs.Tokens.{Spelled, IsLongest, IsFloat, is_number, is_hex, is_hex_tail, is_hex_digits, value_after, hex_after}
use Rattle.fp_lexer.specs.declared.token.Word.{Word}
use Rattle.fp_lexer.specs.declared.token.Word.TheVariants.{Name, Reserved, Number, Float, Str, Mark, Newline, Before, After}
use Rattle.fp_lexer.proofs.Runs.{cond_true}
use Rattle.fp_lexer.proofs.FirstBytes.{shape, shaped, digit_first, digit_no_letter}
use Rattle.fp_lexer.proofs.Lined.{IsLead, lead_of}
use Rattle.fp_lexer.proofs.Longest.{all_le_prefix, prefix_all}
use Rattle.fp_lexer.proofs.Floats.{number_all, some_number, float_bound, float_digits, float_here, float_size, hex_float}

-- the bytes are a number and nothing else
abbrev pub IsNumeral : List ℕ → Option Word → Type 0
IsNumeral w what =
    ((what ≡ Some (Number (pos (value_after 0 w)))) × (is_number w ≡ true))
    ⊎ (((what ≡ Some (Number (pos (hex_after 0 (drop 2 w))))) × (is_hex w ≡ true)) ⊎ ((what ≡ Some Float) × IsFloat w))

no_digit_words : list_all (λ (w : List ℕ). not (digit_first w)) words ≡ true
no_digit_words = refl

no_digit_marks : list_all (λ (w : List ℕ). not (digit_first w)) marks ≡ true
no_digit_marks = refl

not_both : (b : Bool) (P : Type 0) → not b ≡ true → b ≡ true → P
not_both true P e f = cc
not_both false P e f = cc

name_no_digit : (w : List ℕ) (P : Type 0) → is_name w ≡ true → digit_first w ≡ true → P
name_no_digit [] P e f = cc
name_no_digit (b ∷ bs) P e f = let l : is_letter b ≡ true = and_left (is_letter b) (list_all is_name_byte bs) e in let d : is_letter b ≡ false = digit_no_letter b f in cc

literal : (w v : List ℕ) (P : Type 0) → w ≡ v → digit_first v ≡ false → digit_first w ≡ true → P
literal w v P e f t = let h : true ≡ false = sym t ∙ ap digit_first e ∙ f in cc

-- what begins with a digit is a number
pub numeral_of : (w : List ℕ) (what : Option Word) → Spelled w what → digit_first w ≡ true → IsNumeral w what
numeral_of w None s e = elim s [
  | inl h ↦ literal w (32 ∷ []) _ h refl e
  | inr s ↦ elim s [
    | inl h ↦ literal w (9 ∷ []) _ h refl e
    | inr s ↦ elim s [ inl h ↦ literal w (92 ∷ 10 ∷ []) _ h refl e | inr h ↦ literal w (92 ∷ 13 ∷ 10 ∷ []) _ h refl e ]
  ]
]
numeral_of w (Some Newline) s e = elim s [ inl h ↦ literal w (10 ∷ []) _ h refl e | inr h ↦ literal w (13 ∷ 10 ∷ []) _ h refl e ]
numeral_of w (Some (Name m)) s e = elim s.1 [ inl h ↦ name_no_digit m _ s.0 (sym (ap digit_first h.0) ∙ e) | inr h ↦ literal w (36 ∷ m) _ h refl e ]
numeral_of w (Some (Reserved k)) s e = not_both (digit_first w) _ (all_get (λ (x : List ℕ). not (digit_first x)) words k w no_digit_words s) e
numeral_of w (Some (Mark k)) s e = not_both (digit_first w) _ (all_get (λ (x : List ℕ). not (digit_first x)) marks k w no_digit_marks s) e
numeral_of w (Some (Number n)) s e = elim s [ inl p ↦ inl (ap (λ z. Some (Number z)) p.0, p.1) | inr p ↦ inr (inl (ap (λ z. Some (Number z)) p.0, p.1)) ]
numeral_of w (Some Float) s e = inr (inr (refl, s))
numeral_of w (Some (Str m)) s e = absurd s
numeral_of w (Some (Before m)) s e = absurd s
numeral_of w (Some (After m)) s e = absurd s

-- ---- two forms

x_no_digit : (x : ℕ) → (x == 120 || x == 88) ≡ true → is_digit x ≡ false
x_no_digit x e = grind (arith, nat_tests)

-- no bytes are both forms of a number
two_forms : (w : List ℕ) (P : Type 0) → is_number w ≡ true → is_hex w ≡ true → P
two_forms [] P e f = cc
two_forms (b ∷ []) P e f = let z : false ≡ true = and_right (b == 48) false f in cc
two_forms (b ∷ x ∷ xs) P e f =
    let d = and_left (is_digit x) (list_all is_digit xs) (and_right (is_digit b) (list_all is_digit (x ∷ xs)) e) in
    let g = x_no_digit x (and_left (x == 120 || x == 88) (is_hex_digits xs) (and_right (b == 48) (is_hex_tail (x ∷ xs)) f)) in
    let z : true ≡ false = sym d ∙ g in cc

number_float : (w : List ℕ) (P : Type 0) → is_number w ≡ true → IsFloat w → P
number_float w P e f =
    let a = all_le_prefix is_digit w [] (number_all w e) in
    let b = float_digits (w ++ []) w [] f refl in absurd (omega (arith, a, b))

hex_no_float : (w : List ℕ) (P : Type 0) → is_hex w ≡ true → IsFloat w → P
hex_no_float [] P e f = cc
hex_no_float (b ∷ []) P e f = let z : false ≡ true = and_right (b == 48) false e in cc
hex_no_float (b ∷ x ∷ xs) P e f =
    let zero_is = eqb-true b 48 (and_left (b == 48) (is_hex_tail (x ∷ xs)) e) in
    let x_is = and_left (x == 120 || x == 88) (is_hex_digits xs) (and_right (b == 48) (is_hex_tail (x ∷ xs)) e) in
    let h = float_bound (48 ∷ x ∷ (xs ++ [])) (b ∷ x ∷ xs) [] f (ap (λ (y : ℕ). y ∷ x ∷ (xs ++ [])) (sym zero_is)) in
    let l = hex_float x (xs ++ []) x_is in absurd (omega (arith, h, l))

pub numeral_same : (w : List ℕ) (a b : Option Word) → IsNumeral w a → IsNumeral w b → a ≡ b
numeral_same w a b u v = elim u [
  | inl p ↦ elim v [ inl q ↦ p.0 ∙ sym q.0 | inr v ↦ elim v [ inl q ↦ two_forms w _ p.1 q.1 | inr q ↦ number_float w _ p.1 q.1 ] ]
  | inr u ↦ elim u [
    | inl p ↦ elim v [ inl q ↦ two_forms w _ q.1 p.1 | inr v ↦ elim v [ inl q ↦ p.0 ∙ sym q.0 | inr q ↦ hex_no_float w _ p.1 q.1 ] ]
    | inr p ↦ elim v [ inl q ↦ number_float w _ q.1 p.1 | inr v ↦ elim v [ inl q ↦ hex_no_float w _ q.1 p.1 | inr q ↦ p.0 ∙ sym q.0 ] ]
  ]
]

-- ---- the longest

lead_no_digit : (b : ℕ) → IsLead b → is_digit b ≡ false
lead_no_digit b o = elim o [ inl x ↦ ap is_digit x | inr o ↦ elim o [ inl x ↦ ap is_digit x | inr x ↦ ap is_digit x ] ]

same_first : (xs v after : List ℕ) → shape v ≡ true → xs ≡ v ++ after → digit_first xs ≡ true → digit_first v ≡ true
same_first xs [] after h e f = cc
same_first xs (b ∷ u) after h e f = sym (ap digit_first e) ∙ f

-- where a digit is first, a number that no other exceeds is the longest piece
pub numeral_longest : (indent : ℕ) (xs w more : List ℕ) (what : Option Word) → digit_first xs ≡ true → xs ≡ w ++ more → Spelled w what
    → ((v after : List ℕ) → xs ≡ v ++ after → is_number v ≡ true → length v ≤ length w) → ((v after : List ℕ) → xs ≡ v ++ after → is_hex v ≡ true → length v ≤ length w)
    → ((v after : List ℕ) → xs ≡ v ++ after → IsFloat v → length v ≤ length w) → IsLongest indent xs w what
numeral_longest indent xs w more what first e s number hex float = record {
  more = more;
  splits = e;
  spelled = inl s;
  longest = λ v after other split spelled. elim spelled [
    | inl p ↦ elim (numeral_of v other p (same_first xs v after (shaped v other p) split first)) [
      | inl q ↦ number v after split q.1
      | inr r ↦ elim r [ inl q ↦ hex v after split q.1 | inr q ↦ float v after split q.1 ]
    ]
    | inr l ↦ lead_of indent xs v other _ l (λ b t r o. let no : true ≡ false = sym first ∙ ap digit_first r ∙ lead_no_digit b o in cc)
  ];
}

first_run : (xs : List ℕ) → digit_first xs ≡ true → 0 < prefix_len is_digit xs
first_run [] e = cc
first_run (x ∷ xs) e = let c = cond_true (is_digit x) (1 + prefix_len is_digit xs) 0 e in omega (arith, c)

run_length : (p : ℕ → Bool) (xs : List ℕ) → length (take (prefix_len p xs) xs) ≡ prefix_len p xs
run_length p xs = let l = length-take (prefix_len p xs) xs in let m = prefix_len-le-length p xs in omega (arith, l, m)

-- a front of digits is no longer than the run of digits
digits_bound : (xs v after : List ℕ) → xs ≡ v ++ after → is_number v ≡ true → length v ≤ prefix_len is_digit xs
digits_bound xs v after e n = let h = all_le_prefix is_digit v after (number_all v n) in let s = ap (prefix_len is_digit) e in omega (arith, h, s)

hex_begins : (xs v after : List ℕ) → xs ≡ v ++ after → is_hex v ≡ true → hex_starts (get_or xs 0 0) (get_or xs 1 0) (get_or xs 2 0) ≡ true
hex_begins xs [] after e h = cc
hex_begins xs (b ∷ []) after e h = let f : false ≡ true = and_right (b == 48) false h in cc
hex_begins xs (b ∷ x ∷ []) after e h = let f : false ≡ true = and_right (x == 120 || x == 88) false (and_right (b == 48) ((x == 120 || x == 88) && false) h) in cc
hex_begins xs (b ∷ x ∷ d ∷ ds) after e h =
    let z = and_left (b == 48) (is_hex_tail (x ∷ d ∷ ds)) h in
    let k = and_right (b == 48) (is_hex_tail (x ∷ d ∷ ds)) h in
    let p = and_left (x == 120 || x == 88) (is_hex_digits (d ∷ ds)) k in
    let q = and_left (is_hex_digit d) (list_all is_hex_digit ds) (and_right (x == 120 || x == 88) (is_hex_digits (d ∷ ds)) k) in
    ap (λ (v : List ℕ). hex_starts (get_or v 0 0) (get_or v 1 0) (get_or v 2 0)) e ∙ ap (λ (v : Bool). v && ((x == 120 || x == 88) && is_hex_digit d)) z ∙ ap (λ (v : Bool). v && is_hex_digit d) p ∙ q

pub number_longest : (indent : ℕ) (xs : List ℕ) → digit_first xs ≡ true → hex_starts (get_or xs 0 0) (get_or xs 1 0) (get_or xs 2 0) ≡ false → tail_len (drop (prefix_len is_digit xs) xs) ≡ 0
    → IsLongest indent xs (take (prefix_len is_digit xs) xs) (Some (Number (pos (value_after 0 (take (prefix_len is_digit xs) xs)))))
number_longest indent xs first bare whole =
    let n = prefix_len is_digit xs in
    let size = run_length is_digit xs in
    let some = first_run xs first in
    numeral_longest indent xs (take n xs) (drop n xs) _ first (sym (take-append-drop n xs))
    (inl (refl, some_number (take n xs) (omega (arith, size, some)) (prefix_all is_digit xs)))
    (λ v after e h. let b = digits_bound xs v after e h in omega (arith, b, size))
    (λ v after e h. let y : true ≡ false = sym (hex_begins xs v after e h) ∙ bare in cc)
    (λ v after e h. let b = float_bound xs v after h e in omega (arith, b, size, whole))

pub float_longest : (indent : ℕ) (xs : List ℕ) → digit_first xs ≡ true → hex_starts (get_or xs 0 0) (get_or xs 1 0) (get_or xs 2 0) ≡ false → 0 < tail_len (drop (prefix_len is_digit xs) xs)
    → IsLongest indent xs (take (float_len xs) xs) (Some Float)
float_longest indent xs first bare more =
    let n = float_len xs in
    let size = float_size xs in
    numeral_longest indent xs (take n xs) (drop n xs) (Some Float) first (sym (take-append-drop n xs)) (float_here xs (first_run xs first) more)
    (λ v after e h. let b = digits_bound xs v after e h in omega (arith, b, size))
    (λ v after e h. let y : true ≡ false = sym (hex_begins xs v after e h) ∙ bare in cc)
    (λ v after e h. let b = float_bound xs v after h e in omega (arith, b, size))

pub hex_longest : (indent : ℕ) (x d : ℕ) (t : List ℕ) → (x == 120 || x == 88) ≡ true → is_hex_digit d ≡ true
    → IsLongest indent (48 ∷ x ∷ d ∷ t) (48 ∷ x ∷ d ∷ take (prefix_len is_hex_digit t) t) (Some (Number (pos (hex_after 0 (d ∷ take (prefix_len is_hex_digit t) t)))))
hex_longest indent x d t e g =
    let r = take (prefix_len is_hex_digit t) t in
    numeral_longest indent (48 ∷ x ∷ d ∷ t) (48 ∷ x ∷ d ∷ r) (drop (prefix_len is_hex_digit t) t) _ refl
    (ap (λ (v : List ℕ). 48 ∷ x ∷ d ∷ v) (sym (take-append-drop (prefix_len is_hex_digit t) t)))
    (inr (refl, ap (λ (v : Bool). v && (is_hex_digit d && list_all is_hex_digit r)) e ∙ ap (λ (v : Bool). v && list_all is_hex_digit r) g ∙ prefix_all is_hex_digit t))
    decimal hexadecimal (λ v after e2 h. let b = float_bound (48 ∷ x ∷ d ∷ t) v after h e2 in let l = hex_float x (d ∷ t) e in omega (arith, b, l))
  where
    decimal : (v after : List ℕ) → 48 ∷ x ∷ d ∷ t ≡ v ++ after → is_number v ≡ true → length v ≤ length (48 ∷ x ∷ d ∷ take (prefix_len is_hex_digit t) t)
    decimal [] after e2 a = omega arith
    decimal (b ∷ []) after e2 a = omega arith
    decimal (b ∷ y ∷ u) after e2 a =
        let s : y ≡ x = cc in
        let q = and_left (is_digit y) (list_all is_digit u) (and_right (is_digit b) (list_all is_digit (y ∷ u)) a) in
        let f : true ≡ false = sym q ∙ ap is_digit s ∙ x_no_digit x e in cc

    hexadecimal : (v after : List ℕ) → 48 ∷ x ∷ d ∷ t ≡ v ++ after → is_hex v ≡ true → length v ≤ length (48 ∷ x ∷ d ∷ take (prefix_len is_hex_digit t) t)
    hexadecimal [] after e2 a = omega arith
    hexadecimal (b ∷ []) after e2 a = omega arith
    hexadecimal (b ∷ y ∷ []) after e2 a = omega arith
    hexadecimal (b ∷ y ∷ c ∷ cs) after e2 a =
        let tail : t ≡ cs ++ after = cc in
        let k = and_right (b == 48) (is_hex_tail (y ∷ c ∷ cs)) a in
        let all = and_right (is_hex_digit c) (list_all is_hex_digit cs) (and_right (y == 120 || y == 88) (is_hex_digits (c ∷ cs)) k) in
        let le = all_le_prefix is_hex_digit cs after all in
        let f = ap (prefix_len is_hex_digit) tail in
        let l = run_length is_hex_digit t in
        omega (arith, le, f, l)
