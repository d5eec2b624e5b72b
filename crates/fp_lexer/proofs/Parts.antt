-- The parts of a text that its pieces name begin and end between two characters.
use Rattle.std.proofs.Common.{◌≡◌, ℕ, ◌<◌, ◌≤◌, ◌+◌, ◌-◌, List, [], ◌∷◌, length, drop, get_or, sym, ap, ◌∙◌, arith, true, false, subst, get_or-drop, length-drop}
use Rattle.std.specs.Prelude.{◌==◌}
use Rattle.std.specs.List.{prefix_len}
use Rattle.std.specs.Str.{IsUtf8, IsCharBoundary}
use Rattle.std.proofs.lemmas.Bool.Decides.{nat_tests}
use Rattle.std.proofs.lemmas.Str.{IsCharBoundary-after_ascii}
use Rattle.std.proofs.lemmas.List.Sums.{prefix_len_passes, prefix_len-le-length}
use Rattle.fp_base.specs.Names.{is_letter, is_name_byte}
use Rattle.fp_lexer.specs.Bytes.{is_blank, newline_len, line}
use Rattle.fp_lexer.specs.Found.{IsPart}
use Rattle.fp_lexer.proofs.Runs.{bool_cases, cond_true, cond_false, name_byte_ascii}
use Rattle.fp_lexer.proofs.Lines.{newline_forms}

-- an ASCII byte begins a character
pub at_ascii : (text : List ℕ) (i : ℕ) → i ≤ length text → get_or text i 0 < 128 → IsCharBoundary text i
at_ascii text i le a = (le, λ lt ge. absurd (omega (arith, a, ge)))

letter_ascii : (b : ℕ) → is_letter b ≡ true → b < 128
letter_ascii b e = grind (arith, nat_tests)

-- a run of bytes of names, from a letter on
pub name_part : (text : List ℕ) (from past : ℕ) → IsUtf8 text → from < length text → is_letter (get_or text from 0) ≡ true → past ≡ from + prefix_len is_name_byte (drop from text) → from < past
    → IsPart text (record { from = from; past = past })
name_part text from past utf8 h l e lt =
    let n = prefix_len is_name_byte (drop from text) in
    let m = prefix_len-le-length is_name_byte (drop from text) in
    let d = length-drop from text in
    let last : is_name_byte (get_or (drop from text) (n - 1) 0) ≡ true = prefix_len_passes is_name_byte (drop from text) (n - 1) 0 (omega (arith, e, lt)) in
    let there : get_or (drop from text) (n - 1) 0 ≡ get_or text (past - 1) 0 = get_or-drop from text (n - 1) 0 ∙ ap (λ (k : ℕ). get_or text k 0) (omega (arith, e, lt)) in
    let ascii = name_byte_ascii (get_or (drop from text) (n - 1) 0) last in
    let end = IsCharBoundary-after_ascii text (past - 1) utf8 (omega (arith, e, m, d, lt)) (omega (arith, ascii, there)) in
    (omega arith, at_ascii text from (omega arith) (letter_ascii (get_or text from 0) l), subst (λ (k : ℕ). IsCharBoundary text k) (omega arith) end)

-- what ends a line is ASCII
line_ascii : (xs : List ℕ) → get_or xs (length (line xs)) 0 < 128
line_ascii [] = omega arith
line_ascii (b ∷ bs) = bool_cases (newline_len (b ∷ bs) == 0) _
    (λ e. let c = ap length (cond_true (newline_len (b ∷ bs) == 0) (b ∷ line bs) [] e) in
    let same = ap (λ (k : ℕ). get_or (b ∷ bs) k 0) c in
    let h = line_ascii bs in omega (arith, same, h))
    (λ e. let c = ap length (cond_false (newline_len (b ∷ bs) == 0) (b ∷ line bs) [] e) in
    let same = ap (λ (k : ℕ). get_or (b ∷ bs) k 0) c in
    newline_forms (b ∷ bs) _
    (λ z. let y : (newline_len (b ∷ bs) == 0) ≡ true = ap (λ (k : ℕ). k == 0) z in let f : true ≡ false = sym y ∙ e in cc)
    (λ t i n. let x = ap (λ (v : List ℕ). get_or v 0 0) i in omega (arith, same, x))
    (λ t i n. let x = ap (λ (v : List ℕ). get_or v 0 0) i in omega (arith, same, x)))

-- a line behind an ASCII byte
pub line_part : (text : List ℕ) (at from past : ℕ) → IsUtf8 text → from ≡ at + 1 → at < length text → get_or text at 0 < 128 → past ≡ from + length (line (drop from text)) → past ≤ length text
    → IsPart text (record { from = from; past = past })
line_part text at from past utf8 f h a e le =
    let end = line_ascii (drop from text) in
    let there = get_or-drop from text (length (line (drop from text))) 0 in
    let same = ap (λ (k : ℕ). get_or text k 0) e in
    (omega (arith, e), subst (λ (k : ℕ). IsCharBoundary text k) (sym f) (IsCharBoundary-after_ascii text at utf8 h a), at_ascii text past le (omega (arith, end, there, same)))

blank_ascii : (b : ℕ) → is_blank b ≡ true → b < 128
blank_ascii b e = grind (arith, nat_tests)

-- behind the blanks that a line begins with
pub leading_part : (line : List ℕ) (n : ℕ) → IsUtf8 line → n ≡ prefix_len is_blank line → n ≤ length line → 0 < n → IsCharBoundary line n
leading_part line n utf8 e le some =
    let last = prefix_len_passes is_blank line (n - 1) 0 (omega (arith, e)) in
    subst (λ (k : ℕ). IsCharBoundary line k) (omega arith) (IsCharBoundary-after_ascii line (n - 1) utf8 (omega arith) (blank_ascii (get_or line (n - 1) 0) last))

-- before the blanks that a line ends with
pub trailing_part : (line : List ℕ) (n : ℕ) → n ≤ length line → (n < length line → is_blank (get_or line n 0) ≡ true) → IsCharBoundary line n
trailing_part line n le blank = (le, λ lt ge. let a = blank_ascii (get_or line n 0) (blank lt) in absurd (omega (arith, a, ge)))

-- what stands between ASCII bytes
pub quoted_part : (text : List ℕ) (at past : ℕ) → IsUtf8 text → at < length text → get_or text at 0 < 128 → at + 1 ≤ past → past ≤ length text → get_or text past 0 < 128
    → IsPart text (record { from = at + 1; past = past })
quoted_part text at past utf8 h a le within b = (le, IsCharBoundary-after_ascii text at utf8 h a, at_ascii text past within b)
