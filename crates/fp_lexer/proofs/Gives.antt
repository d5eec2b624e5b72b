-- The longest piece at an offset of a text, from what the parts of the lexer say.
use Rattle.std.proofs.Common.{◌≡◌, ℕ, ◌<◌, ◌≤◌, ◌+◌, ◌-◌, ◌^◌, List, [], ◌∷◌, ◌++◌, length, take, drop, get_or, slice_get, Some, None, Ok, Option, sym, ap, ◌∙◌, arith, suc, zero, refl, true, false, Bool, subst, ◌&&◌, ◌||◌, pos, ℤ, length-take, length-drop, length-append, get_or-drop, append_assoc, drop-drop, take-append-drop, take_at, inl, inr}
use Rattle.std.specs.Prelude.{◌==◌}
use Rattle.std.specs.List.{list_all, prefix_len}
use Rattle.std.proofs.lemmas.Bool.{ne_eqb, eqb-true}
use Rattle.std.proofs.lemmas.List.{drop_more}
use Rattle.std.proofs.lemmas.List.Sums.{prefix_len-le-length}
use Rattle.fp_base.specs.Names.{is_letter, is_digit, is_name_byte, is_name}
use Rattle.fp_base.proofs.Bools.{and_left, and_right}
use Rattle.fp_lexer.specs.Bytes.{is_hex_digit, body_text, line, newline_len, newline_at, indent_at, trimmed}
use Rattle.fp_lexer.specs.Words.{words}
use Rattle.fp_lexer.specs.Scan.{run_value, run_hex, hex_starts, tail_len, float_len, string_len, other, long_len}
use Rattle.fp_lexer.specs.Found.{HasNoBadEscape, IsSmall, GivesLexeme, what_of}
use Rattle.fp_lexer.specs.Broken.{NoneBegins, LargeBegins, BadEscapeAt}
use Rattle.fp_lexer.specs.Tokens.{Spells, begins_long, IsLongest, IsLexeme, Lexeme, hex_after}
use Rattle.fp_lexer.specs.declared.shape.Shape.{Shape}
use Rattle.fp_lexer.specs.declared.shape.Shape.TheVariants as shape
use Rattle.fp_lexer.specs.declared.token.Word.{Word}
use Rattle.fp_lexer.specs.declared.token.Word.TheVariants.{Name, Reserved, Number, Str, Before, After}
use Rattle.fp_lexer.proofs.Runs.{cond_true, cond_false, run_value-is, run_hex-is}
use Rattle.fp_lexer.proofs.Lines.{line_splits, line_takes, newline_forms}
use Rattle.fp_lexer.proofs.FirstBytes.{digit_first}
use Rattle.fp_lexer.proofs.Lined.{is_lead, lined_longest, lead_none, quoted, long_quoted}
use Rattle.fp_lexer.proofs.Strings.{string_sound}
use Rattle.fp_lexer.proofs.Longest.{name_longest, other_ok, other_none, prefix_all, dollar_longest, dollar_none, slash_none, slash_longest}
use Rattle.fp_lexer.proofs.Numbers.{number_longest, float_longest, hex_longest}
use Rattle.fp_lexer.proofs.Floats.{float_size}
use Rattle.fp_lexer.proofs.Parts.{name_part, line_part, quoted_part}

-- ---- bad escapes

-- there is none where no string begins
no_bad : (text : List ℕ) (at : ℕ) → (get_or text at 0 ≡ 34 → ⊥) → HasNoBadEscape text at
no_bad text at f there b =
    let body = b.2 in
    f (ap (λ (k : ℕ). get_or text k 0) (omega arith) ∙ sym (get_or-drop at text 0 0) ∙ ap (λ (xs : List ℕ). get_or xs 0 0) body.splits)

no_bad_at : (text : List ℕ) (at b : ℕ) → get_or text at 0 ≡ b → (b ≡ 34 → ⊥) → HasNoBadEscape text at
no_bad_at text at b e f = no_bad text at (λ q. f (sym e ∙ q))

-- nor where a string on one line does
no_long : (text : List ℕ) (at there : ℕ) → begins_long (drop at text) ≡ false → BadEscapeAt text at there → ⊥
no_long text at there e b = let body = b.2 in let y : true ≡ false = sym (ap begins_long body.splits) ∙ e in cc

-- ---- names

-- from the byte at an offset and the rest to the text
piece_at : (text : List ℕ) (at past : ℕ) (what : Option Word) (w : List ℕ) → at < length text → IsLongest (indent_at text at) (get_or text at 0 ∷ drop (at + 1) text) w what → past ≡ at + length w → IsLexeme text (record { what = what; from = at; past = past })
piece_at text at past what w h l e = (w, subst (λ (xs : List ℕ). IsLongest (indent_at text at) xs w what) (sym (drop_more text at 0 h)) l, e)

-- the run of bytes that begins with the byte at an offset
run_is : (p : ℕ → Bool) (text : List ℕ) (at past : ℕ) → at < length text → p (get_or text at 0) ≡ true → past ≡ at + prefix_len p (drop at text)
    → take (past - at) (drop at text) ≡ get_or text at 0 ∷ take (prefix_len p (drop (at + 1) text)) (drop (at + 1) text)
run_is p text at past h t e =
    let d = drop_more text at 0 h in
    let c : prefix_len p (drop at text) ≡ suc (prefix_len p (drop (at + 1) text)) = ap (prefix_len p) d ∙ cond_true (p (get_or text at 0)) (1 + prefix_len p (drop (at + 1) text)) 0 t ∙ omega arith in
    let n : past - at ≡ suc (prefix_len p (drop (at + 1) text)) = omega (arith, c) in
    rw (n, d) refl

run_past : (p : ℕ → Bool) (text : List ℕ) (at past : ℕ) → at < length text → p (get_or text at 0) ≡ true → past ≡ at + prefix_len p (drop at text)
    → past ≡ at + length (get_or text at 0 ∷ take (prefix_len p (drop (at + 1) text)) (drop (at + 1) text))
run_past p text at past h t e =
    let d = drop_more text at 0 h in
    let c = ap (prefix_len p) d in
    let f = cond_true (p (get_or text at 0)) (1 + prefix_len p (drop (at + 1) text)) 0 t in
    let l = length-take (prefix_len p (drop (at + 1) text)) (drop (at + 1) text) in
    let m = prefix_len-le-length p (drop (at + 1) text) in
    omega (arith, c, f, l, m)

letter_is : (b : ℕ) → is_letter b ≡ true → is_name_byte b ≡ true
letter_is b e = ap (λ (v : Bool). v || is_digit b) e

not_number : (w : Word) → ((n : ℕ) → Some w ≡ Some (Number (pos n)) → ⊥) → IsSmall (Some w)
not_number w f n e = absurd (f n e)

pub gives_reserved : (text : List ℕ) (at past k : ℕ) → at < length text → is_letter (get_or text at 0) ≡ true → past ≡ at + prefix_len is_name_byte (drop at text)
    → slice_get words k ≡ Some (take (past - at) (drop at text)) → GivesLexeme text at (Ok (shape.Reserved k, past))
gives_reserved text at past k h l e s =
    let r = run_is is_name_byte text at past h (letter_is (get_or text at 0) l) e in (
      piece_at text at past (Some (Reserved k)) _ h (name_longest (indent_at text at) (get_or text at 0) (drop (at + 1) text) (Some (Reserved k)) l (s ∙ ap Some r)) (run_past is_name_byte text at past h (letter_is (get_or text at 0) l) e),
      not_number (Reserved k) (λ n z. cc),
      λ utf8. tt,
      no_bad text at (λ q. let y : true ≡ false = sym l ∙ ap is_letter q in cc),
    )

pub gives_name : (text : List ℕ) (at past : ℕ) → at < length text → is_letter (get_or text at 0) ≡ true → past ≡ at + prefix_len is_name_byte (drop at text)
    → ((k : ℕ) → slice_get words k ≡ Some (take (past - at) (drop at text)) → ⊥) → GivesLexeme text at (Ok (shape.Name (record { from = at; past = past }), past))
gives_name text at past h l e f =
    let name = take (past - at) (drop at text) in
    let r = run_is is_name_byte text at past h (letter_is (get_or text at 0) l) e in
    let p = run_past is_name_byte text at past h (letter_is (get_or text at 0) l) e in
    let t = drop (at + 1) text in
    let b = get_or text at 0 in
    let named : is_name (b ∷ take (prefix_len is_name_byte t) t) ≡ true = ap (λ (v : Bool). v && list_all is_name_byte (take (prefix_len is_name_byte t) t)) l ∙ prefix_all is_name_byte t in (
      piece_at text at past (Some (Name name)) _ h (name_longest (indent_at text at) b t (Some (Name name)) l (ap is_name r ∙ named, inl (sym r, f))) p,
      not_number (Name name) (λ n z. cc),
      λ utf8. name_part text at past utf8 h l e (omega (arith, p)),
      no_bad text at (λ q. let y : true ≡ false = sym l ∙ ap is_letter q in cc),
    )

-- ---- numbers

-- the byte at an offset begins what is left
digit_here : (text : List ℕ) (at : ℕ) → at < length text → is_digit (get_or text at 0) ≡ true → digit_first (drop at text) ≡ true
digit_here text at h l = ap digit_first (drop_more text at 0 h) ∙ l

abbrev hex_at : List ℕ → ℕ → Bool
hex_at text at = hex_starts (get_or text at 0) (get_or text (at + 1) 0) (get_or text (at + 2) 0)

hex_here : (text : List ℕ) (at : ℕ) → hex_starts (get_or (drop at text) 0 0) (get_or (drop at text) 1 0) (get_or (drop at text) 2 0) ≡ hex_at text at
hex_here text at =
    let a : get_or (drop at text) 0 0 ≡ get_or text at 0 = get_or-drop at text 0 0 ∙ ap (λ (k : ℕ). get_or text k 0) (omega arith) in
    let b = get_or-drop at text 1 0 in
    let c = get_or-drop at text 2 0 in
    ap (λ (x : ℕ). hex_starts x (get_or (drop at text) 1 0) (get_or (drop at text) 2 0)) a
    ∙ ap (λ (x : ℕ). hex_starts (get_or text at 0) x (get_or (drop at text) 2 0)) b
    ∙ ap (λ (x : ℕ). hex_starts (get_or text at 0) (get_or text (at + 1) 0) x) c

abbrev tail_at : List ℕ → ℕ → ℕ
tail_at text at = tail_len (drop (at + prefix_len is_digit (drop at text)) text)

tail_here : (text : List ℕ) (at : ℕ) → tail_len (drop (prefix_len is_digit (drop at text)) (drop at text)) ≡ tail_at text at
tail_here text at = ap tail_len (drop-drop (prefix_len is_digit (drop at text)) at text)

number_piece : (text : List ℕ) (at past : ℕ) → at < length text → is_digit (get_or text at 0) ≡ true → hex_at text at ≡ false → tail_at text at ≡ 0 → past ≡ at + prefix_len is_digit (drop at text)
    → IsLexeme text (record { what = Some (Number (pos (run_value 0 (drop at text)))); from = at; past = past })
number_piece text at past h l bare whole e =
    let xs = drop at text in
    let w = take (prefix_len is_digit xs) xs in
    let z = length-take (prefix_len is_digit xs) xs in
    let m = prefix_len-le-length is_digit xs in
    subst (λ (n : ℕ). IsLexeme text (record { what = Some (Number (pos n)); from = at; past = past })) (sym (run_value-is 0 xs))
    (w, number_longest (indent_at text at) xs (digit_here text at h l) (hex_here text at ∙ bare) (tail_here text at ∙ whole), omega (arith, e, z, m))

-- a number that was read
gives_value : (text : List ℕ) (at past value n : ℕ) (z : ℤ) → z ≡ pos value → value < 2 ^ 127 → value ≡ n → HasNoBadEscape text at → IsLexeme text (record { what = Some (Number (pos n)); from = at; past = past }) → GivesLexeme text at (Ok (shape.Number z, past))
gives_value text at past value n z zv small v none p =
    let same : z ≡ pos n = zv ∙ ap pos v in (
      subst (λ (x : ℤ). IsLexeme text (record { what = Some (Number x); from = at; past = past })) (sym same) p,
      λ m q. let k : m ≡ value = cc in omega arith,
      λ utf8. tt,
      none,
    )

pub gives_number : (text : List ℕ) (at past value : ℕ) (z : ℤ) → at < length text → is_digit (get_or text at 0) ≡ true → hex_at text at ≡ false → tail_at text at ≡ 0 → z ≡ pos value → value < 2 ^ 127 → value ≡ run_value 0 (drop at text)
    → past ≡ at + prefix_len is_digit (drop at text) → GivesLexeme text at (Ok (shape.Number z, past))
gives_number text at past value z h l bare whole zv small v e = gives_value text at past value (run_value 0 (drop at text)) z zv small v (no_bad text at (λ q. let y : true ≡ false = sym l ∙ ap is_digit q in cc)) (number_piece text at past h l bare whole e)

pub large_begins : (text : List ℕ) (at : ℕ) → at < length text → is_digit (get_or text at 0) ≡ true → hex_at text at ≡ false → tail_at text at ≡ 0 → 2 ^ 127 ≤ run_value 0 (drop at text) → LargeBegins text at
large_begins text at h l bare whole large = (run_value 0 (drop at text), at + prefix_len is_digit (drop at text), number_piece text at (at + prefix_len is_digit (drop at text)) h l bare whole refl, large)

pub tail_none : (text : List ℕ) (at digits past : ℕ) → digits ≡ at + prefix_len is_digit (drop at text) → past ≡ digits + tail_len (drop digits text) → past ≤ digits → tail_at text at ≡ 0
tail_none text at digits past d p f =
    let same = ap (λ (k : ℕ). tail_len (drop k text)) d in omega (arith, same, p, f)

pub gives_float : (text : List ℕ) (at digits past : ℕ) → at < length text → is_digit (get_or text at 0) ≡ true → hex_at text at ≡ false → digits ≡ at + prefix_len is_digit (drop at text)
    → past ≡ digits + tail_len (drop digits text) → digits < past → GivesLexeme text at (Ok (shape.Float, past))
gives_float text at digits past h l bare d p more =
    let xs = drop at text in
    let tail : tail_len (drop (prefix_len is_digit xs) xs) ≡ tail_len (drop digits text) = tail_here text at ∙ ap (λ (k : ℕ). tail_len (drop k text)) (sym d) in
    let size = float_size xs in (
      (take (float_len xs) xs, float_longest (indent_at text at) xs (digit_here text at h l) (hex_here text at ∙ bare) (omega (arith, tail, p, more)), omega (arith, tail, p, d, size)),
      (λ n z. cc),
      λ utf8. tt,
      no_bad text at (λ q. let y : true ≡ false = sym l ∙ ap is_digit q in cc),
    )

hex_within : (text : List ℕ) (i : ℕ) → is_hex_digit (get_or text i 0) ≡ true → i < length text
hex_within [] i e = cc
hex_within (x ∷ xs) zero e = omega arith
hex_within (x ∷ xs) (suc i) e = let l = hex_within xs i e in omega (arith, l)

hex_piece : (text : List ℕ) (at past : ℕ) → at < length text → hex_at text at ≡ true → past ≡ (at + 2) + prefix_len is_hex_digit (drop (at + 2) text)
    → IsLexeme text (record { what = Some (Number (pos (run_hex 0 (drop (at + 2) text)))); from = at; past = past })
hex_piece text at past h e p =
    let a = get_or text at 0 in let x = get_or text (at + 1) 0 in let d = get_or text (at + 2) 0 in
    let t = drop (at + 3) text in
    let zero_is = eqb-true a 48 (and_left (a == 48) ((x == 120 || x == 88) && is_hex_digit d) e) in
    let rest = and_right (a == 48) ((x == 120 || x == 88) && is_hex_digit d) e in
    let x_is = and_left (x == 120 || x == 88) (is_hex_digit d) rest in
    let d_is = and_right (x == 120 || x == 88) (is_hex_digit d) rest in
    let in2 = hex_within text (at + 2) d_is in
    let split : drop at text ≡ 48 ∷ x ∷ d ∷ t =
    drop_more text at 0 h ∙ ap (λ (y : ℕ). y ∷ drop (at + 1) text) zero_is
    ∙ ap (λ (v : List ℕ). 48 ∷ v) (drop_more text (at + 1) 0 (omega arith) ∙ ap (λ (k : ℕ). x ∷ drop k text) (omega arith)
    ∙ ap (λ (v : List ℕ). x ∷ v) (drop_more text (at + 2) 0 in2 ∙ ap (λ (k : ℕ). d ∷ drop k text) (omega arith))) in
    let three : (at + 2) + 1 ≡ at + 3 = omega arith in
    let n : past - (at + 2) ≡ prefix_len is_hex_digit (drop (at + 2) text) = omega arith in
    let part : take (past - (at + 2)) (drop (at + 2) text) ≡ d ∷ take (prefix_len is_hex_digit t) t = run_is is_hex_digit text (at + 2) past in2 d_is p ∙ ap (λ (k : ℕ). d ∷ take (prefix_len is_hex_digit (drop k text)) (drop k text)) three in
    let value : run_hex 0 (drop (at + 2) text) ≡ hex_after 0 (d ∷ take (prefix_len is_hex_digit t) t) = run_hex-is 0 (drop (at + 2) text) ∙ ap (hex_after 0) (ap (λ (k : ℕ). take k (drop (at + 2) text)) (sym n) ∙ part) in
    let size = run_past is_hex_digit text (at + 2) past in2 d_is p in
    let size2 = ap (λ (k : ℕ). (at + 2) + length (d ∷ take (prefix_len is_hex_digit (drop k text)) (drop k text))) three in
    subst (λ (k : ℕ). IsLexeme text (record { what = Some (Number (pos k)); from = at; past = past })) (sym value) (
      48 ∷ x ∷ d ∷ take (prefix_len is_hex_digit t) t,
      subst (λ (xs : List ℕ). IsLongest (indent_at text at) xs (48 ∷ x ∷ d ∷ take (prefix_len is_hex_digit t) t) (Some (Number (pos (hex_after 0 (d ∷ take (prefix_len is_hex_digit t) t)))))) (sym split) (hex_longest (indent_at text at) x d t x_is d_is),
      omega (arith, size, size2),
    )

pub gives_hex : (text : List ℕ) (at past value : ℕ) (z : ℤ) → at < length text → hex_at text at ≡ true → z ≡ pos value → value < 2 ^ 127 → value ≡ run_hex 0 (drop (at + 2) text)
    → past ≡ (at + 2) + prefix_len is_hex_digit (drop (at + 2) text) → GivesLexeme text at (Ok (shape.Number z, past))
gives_hex text at past value z h e zv small v p = gives_value text at past value (run_hex 0 (drop (at + 2) text)) z zv small v (no_bad text at (λ q. let y : true ≡ false = sym e ∙ ap (λ (b : ℕ). hex_starts b (get_or text (at + 1) 0) (get_or text (at + 2) 0)) q in cc)) (hex_piece text at past h e p)

pub large_hex : (text : List ℕ) (at : ℕ) → at < length text → hex_at text at ≡ true → 2 ^ 127 ≤ run_hex 0 (drop (at + 2) text) → LargeBegins text at
large_hex text at h e large = (run_hex 0 (drop (at + 2) text), (at + 2) + prefix_len is_hex_digit (drop (at + 2) text), hex_piece text at ((at + 2) + prefix_len is_hex_digit (drop (at + 2) text)) h e refl, large)

lead_false : (b : ℕ) → (b ≡ 35 → ⊥) → (b ≡ 64 → ⊥) → (b ≡ 34 → ⊥) → is_lead b ≡ false
lead_false b f g q = ap (λ (v : Bool). v || (b == 64 || b == 34)) (ne_eqb b 35 f) ∙ ap (λ (v : Bool). v || b == 34) (ne_eqb b 64 g) ∙ ne_eqb b 34 q

pub gives_other : (text : List ℕ) (at n : ℕ) (s : Shape) → at < length text → is_letter (get_or text at 0) ≡ false → is_digit (get_or text at 0) ≡ false
    → (get_or text at 0 ≡ 35 → ⊥) → (get_or text at 0 ≡ 64 → ⊥) → (get_or text at 0 ≡ 34 → ⊥) → (get_or text at 0 ≡ 36 → ⊥) → (get_or text at 0 ≡ 92 → ⊥) → other (get_or text at 0) (get_or text (at + 1) 0) ≡ Some (s, n) → GivesLexeme text at (Ok (s, at + n))
gives_other text at n s h l d hash sign quote dollar slash e =
    let next : get_or (drop (at + 1) text) 0 0 ≡ get_or text (at + 1) 0 = get_or-drop (at + 1) text 0 0 ∙ ap (λ (k : ℕ). get_or text k 0) (omega arith) in
    let o = other_ok (indent_at text at) (get_or text at 0) (drop (at + 1) text) text s n (lead_false (get_or text at 0) hash sign quote) l d (ne_eqb _ 36 dollar) (ne_eqb _ 92 slash) (ap (other (get_or text at 0)) next ∙ e) in
    (piece_at text at (at + n) (what_of (indent_at text at) text s) o.w h o.longest (ap (λ (k : ℕ). at + k) o.size), o.small, λ utf8. o.has, no_bad text at quote)

pub none_begins : (text : List ℕ) (at : ℕ) → at < length text → is_letter (get_or text at 0) ≡ false → is_digit (get_or text at 0) ≡ false
    → (get_or text at 0 ≡ 35 → ⊥) → (get_or text at 0 ≡ 64 → ⊥) → (get_or text at 0 ≡ 34 → ⊥) → (get_or text at 0 ≡ 36 → ⊥) → (get_or text at 0 ≡ 92 → ⊥) → other (get_or text at 0) (get_or text (at + 1) 0) ≡ None → NoneBegins text at
none_begins text at h l d hash sign quote dollar slash e w more what split s =
    let next : get_or (drop (at + 1) text) 0 0 ≡ get_or text (at + 1) 0 = get_or-drop (at + 1) text 0 0 ∙ ap (λ (k : ℕ). get_or text k 0) (omega arith) in
    other_none (indent_at text at) (get_or text at 0) (drop (at + 1) text) (lead_false (get_or text at 0) hash sign quote) l d (ne_eqb _ 36 dollar) (ne_eqb _ 92 slash) (ap (other (get_or text at 0)) next ∙ e) w more what (sym (drop_more text at 0 h) ∙ split) (subst (λ (xs : List ℕ). Spells (indent_at text at) xs w what) (drop_more text at 0 h) s)

-- a piece ends within the text
pub piece_within : (text : List ℕ) (p : Lexeme) → IsLexeme text p → p.from ≤ length text → p.past ≤ length text
piece_within text p i h =
    let l = i.1 in
    let e = ap length l.splits in
    let a = length-append i.0 l.more in
    let d = length-drop p.from text in
    let f = i.2 in
    omega (arith, e, a, d, f)

-- ---- lines

pub first_is : (text : List ℕ) (at b : ℕ) → at < length text → get_or text at 0 ≡ b → drop at text ≡ b ∷ drop (at + 1) text
first_is text at b h e = drop_more text at 0 h ∙ ap (λ (x : ℕ). x ∷ drop (at + 1) text) e

pub gives_comment : (text : List ℕ) (at past : ℕ) → at < length text → get_or text at 0 ≡ 35 → past ≡ (at + 1) + length (line (drop (at + 1) text)) → GivesLexeme text at (Ok (shape.Blank, past))
gives_comment text at past h b e =
    let t = drop (at + 1) text in
    let d = first_is text at 35 h b in
    ((35 ∷ line t, lined_longest (indent_at text at) (drop at text) (35 ∷ line t) (drop (length (line t)) t) None (d ∙ ap (λ (x : List ℕ). 35 ∷ x) (line_splits t)) (t, d, refl), omega arith), λ n z. cc, λ utf8. tt, no_bad_at text at 35 b (omega arith))

pub within_from : (text : List ℕ) (i b : ℕ) → get_or text i 0 ≡ b → 0 < b → i < length text
within_from [] i b e h = let x : 0 ≡ b = e in absurd (omega (arith, x))
within_from (x ∷ xs) zero b e h = omega arith
within_from (x ∷ xs) (suc i) b e h = let l = within_from xs i b e h in omega (arith, l)

line_note : (t note : List ℕ) (n : ℕ) → n ≡ length (line t) → note ≡ trimmed (take n t) → note ≡ trimmed (line t)
line_note t note n e i = i ∙ ap trimmed (ap (λ (k : ℕ). take k t) e ∙ line_takes t)

pub gives_after : (text : List ℕ) (at past : ℕ) → at < length text → get_or text at 0 ≡ 64 → get_or text (at + 1) 0 ≡ 60 → past ≡ (at + 2) + length (line (drop (at + 2) text)) → past ≤ length text
    → GivesLexeme text at (Ok (shape.After (record { from = at + 2; past = past }), past))
gives_after text at past h b c e le =
    let t = drop (at + 2) text in
    let note = trimmed (take (past - (at + 2)) t) in
    let in2 = within_from text (at + 1) 60 c (omega arith) in
    let same : (at + 1) + 1 ≡ at + 2 = omega arith in
    let d : drop at text ≡ 64 ∷ 60 ∷ t = first_is text at 64 h b ∙ ap (λ (x : List ℕ). 64 ∷ x) (first_is text (at + 1) 60 in2 c ∙ ap (λ (k : ℕ). 60 ∷ drop k text) same) in (
      (64 ∷ 60 ∷ line t, lined_longest (indent_at text at) (drop at text) (64 ∷ 60 ∷ line t) (drop (length (line t)) t) (Some (After note)) (d ∙ ap (λ (x : List ℕ). 64 ∷ 60 ∷ x) (line_splits t)) (t, d, refl, line_note t note (past - (at + 2)) (omega arith) refl), omega arith),
      λ n z. cc,
      λ utf8. line_part text (at + 1) (at + 2) past utf8 (omega arith) in2 (omega (arith, c)) e le,
      no_bad_at text at 64 b (omega arith),
    )

newline_splits : (xs : List ℕ) → xs ≡ newline_at xs ++ drop (newline_len xs) xs
newline_splits xs = sym (take-append-drop (newline_len xs) xs)

newline_length : (xs : List ℕ) → length (newline_at xs) ≡ newline_len xs
newline_length xs = newline_forms xs _
    (λ z. ap (λ (k : ℕ). length (take k xs)) z ∙ sym z)
    (λ t e n. ap (λ (k : ℕ). length (take k xs)) n ∙ ap (λ (l : List ℕ). length (take 1 l)) e ∙ sym n)
    (λ t e n. ap (λ (k : ℕ). length (take k xs)) n ∙ ap (λ (l : List ℕ). length (take 2 l)) e ∙ sym n)

pub gives_before : (text : List ℕ) (at end past : ℕ) → at < length text → get_or text at 0 ≡ 64 → (get_or text (at + 1) 0 ≡ 60 → ⊥) → end ≡ (at + 1) + length (line (drop (at + 1) text)) → end ≤ length text
    → past ≡ end + newline_len (drop end text) → GivesLexeme text at (Ok (shape.Before (record { from = at + 1; past = end }), past))
gives_before text at end past h b c e le p =
    let t = drop (at + 1) text in
    let note = trimmed (take (end - (at + 1)) t) in
    let r = drop (length (line t)) t in
    let rest : drop end text ≡ r = ap (λ (k : ℕ). drop k text) e ∙ sym (drop-drop (length (line t)) (at + 1) text) in
    let d = first_is text at 64 h b in
    let next : get_or t 0 0 ≡ get_or text (at + 1) 0 = get_or-drop (at + 1) text 0 0 ∙ ap (λ (k : ℕ). get_or text k 0) (omega arith) in
    let post : (get_or t 0 0 == 60) ≡ false = ne_eqb (get_or t 0 0) 60 (λ z. c (sym next ∙ z)) in
    let splits : t ≡ (line t ++ newline_at r) ++ drop (newline_len r) r = line_splits t ∙ ap (λ (x : List ℕ). line t ++ x) (newline_splits r) ∙ sym (append_assoc (line t) (newline_at r) (drop (newline_len r) r)) in
    let n = newline_length r in
    let m = ap newline_len rest in
    let l = length-append (line t) (newline_at r) in (
      (
        64 ∷ line t ++ newline_at r,
        lined_longest (indent_at text at) (drop at text) (64 ∷ line t ++ newline_at r) (drop (newline_len r) r) (Some (Before note)) (d ∙ ap (λ (x : List ℕ). 64 ∷ x) splits)
            (t, d, post, refl, line_note t note (end - (at + 1)) (omega arith) refl),
        omega (arith, n, m, l),
      ),
      λ n z. cc,
      λ utf8. line_part text at (at + 1) end utf8 refl h (omega (arith, b)) e le,
      no_bad_at text at 64 b (omega arith),
    )

-- ---- a `$` and a name, a backslash and a newline

next_is : (text : List ℕ) (at : ℕ) → get_or (drop (at + 1) text) 0 0 ≡ get_or text (at + 1) 0
next_is text at = get_or-drop (at + 1) text 0 0 ∙ ap (λ (k : ℕ). get_or text k 0) (omega arith)

at_first : (text : List ℕ) (at past b : ℕ) (what : Option Word) (w : List ℕ) → at < length text → get_or text at 0 ≡ b → IsLongest (indent_at text at) (b ∷ drop (at + 1) text) w what → past ≡ at + length w → IsLexeme text (record { what = what; from = at; past = past })
at_first text at past b what w h e l p = (w, subst (λ (xs : List ℕ). IsLongest (indent_at text at) xs w what) (sym (first_is text at b h e)) l, p)

pub none_first : (text : List ℕ) (at b : ℕ) → at < length text → get_or text at 0 ≡ b → ((w more : List ℕ) (what : Option Word) → b ∷ drop (at + 1) text ≡ w ++ more → Spells (indent_at text at) (b ∷ drop (at + 1) text) w what → ⊥) → NoneBegins text at
none_first text at b h e k w more what split s = let d = first_is text at b h e in k w more what (sym d ∙ split) (subst (λ (xs : List ℕ). Spells (indent_at text at) xs w what) d s)

pub dollar_begins_none : (text : List ℕ) (at : ℕ) → at < length text → get_or text at 0 ≡ 36 → is_letter (get_or text (at + 1) 0) ≡ false → NoneBegins text at
dollar_begins_none text at h b e = none_first text at 36 h b (dollar_none (indent_at text at) (drop (at + 1) text) (ap is_letter (next_is text at) ∙ e))

pub gives_dollar : (text : List ℕ) (at past : ℕ) → at < length text → get_or text at 0 ≡ 36 → at + 1 < length text → is_letter (get_or text (at + 1) 0) ≡ true
    → past ≡ (at + 1) + prefix_len is_name_byte (drop (at + 1) text) → GivesLexeme text at (Ok (shape.Name (record { from = at + 1; past = past }), past))
gives_dollar text at past h b g l e =
    let t = drop (at + 1) text in
    let name = take (past - (at + 1)) t in
    let n : past - (at + 1) ≡ prefix_len is_name_byte t = omega arith in
    let part : name ≡ take (prefix_len is_name_byte t) t = ap (λ (k : ℕ). take k t) n in
    let r = run_is is_name_byte text (at + 1) past g (letter_is (get_or text (at + 1) 0) l) e in
    let p = run_past is_name_byte text (at + 1) past g (letter_is (get_or text (at + 1) 0) l) e in
    let u = drop ((at + 1) + 1) text in
    let named : is_name name ≡ true = ap is_name r ∙ ap (λ (v : Bool). v && list_all is_name_byte (take (prefix_len is_name_byte u) u)) l ∙ prefix_all is_name_byte u in
    let z = length-take (prefix_len is_name_byte t) t in
    let m = prefix_len-le-length is_name_byte t in
    let q = ap length part in (
      at_first text at past 36 (Some (Name name)) (36 ∷ name) h b (dollar_longest (indent_at text at) t name part named) (omega (arith, z, m, q)),
      not_number (Name name) (λ n z. cc),
      λ utf8. name_part text (at + 1) past utf8 g l e (omega (arith, p)),
      no_bad_at text at 36 b (omega arith),
    )

pub slash_begins_none : (text : List ℕ) (at : ℕ) → at < length text → get_or text at 0 ≡ 92 → newline_len (drop (at + 1) text) ≡ 0 → NoneBegins text at
slash_begins_none text at h b e = none_first text at 92 h b (slash_none (indent_at text at) (drop (at + 1) text) e)

pub gives_slash : (text : List ℕ) (at n : ℕ) → at < length text → get_or text at 0 ≡ 92 → n ≡ newline_len (drop (at + 1) text) → (n ≡ 0 → ⊥) → GivesLexeme text at (Ok (shape.Blank, at + 1 + n))
gives_slash text at n h b e k =
    let s = slash_longest (indent_at text at) (drop (at + 1) text) (λ z. k (e ∙ z)) in
    let l = s.2 in
    (at_first text at (at + 1 + n) 92 None s.0 h b s.1 (omega (arith, l)), λ n z. cc, λ utf8. tt, no_bad_at text at 92 b (omega arith))

pub letter_within : (text : List ℕ) (i : ℕ) → is_letter (get_or text i 0) ≡ true → i < length text
letter_within [] i e = cc
letter_within (x ∷ xs) zero e = omega arith
letter_within (x ∷ xs) (suc i) e = let l = letter_within xs i e in omega (arith, l)

-- ---- strings

pub long_is : (text : List ℕ) (at : ℕ) → begins_long (drop at text) ≡ (get_or text (at + 1) 0 == 34 && get_or text (at + 2) 0 == 34)
long_is text at = ap (λ (x : ℕ). x == 34 && get_or (drop at text) 2 0 == 34) (get_or-drop at text 1 0) ∙ ap (λ (x : ℕ). get_or text (at + 1) 0 == 34 && x == 34) (get_or-drop at text 2 0)

pub open_none : (text : List ℕ) (at : ℕ) → at < length text → get_or text at 0 ≡ 34 → (get_or text (at + 1) 0 == 34 && get_or text (at + 2) 0 == 34) ≡ false
    → string_len false (drop (at + 1) text) ≡ None → NoneBegins text at
open_none text at h q l e =
    let t = drop (at + 1) text in
    let short : begins_long (34 ∷ t) ≡ false = sym (ap begins_long (first_is text at 34 h q)) ∙ long_is text at ∙ l in
    none_first text at 34 h q (lead_none (indent_at text at) 34 t (inr (inr refl))
    (cond_false (begins_long (34 ∷ t)) (long_quoted (indent_at text at) (drop 2 t) (long_len false (drop 2 t))) (quoted t (string_len false t)) short ∙ ap (quoted t) e))

pub first_behind : (raw : List ℕ) (b : ℕ) (more : List ℕ) → get_or (raw ++ b ∷ more) (length raw) 0 ≡ b
first_behind [] b more = refl
first_behind (x ∷ raw) b more = first_behind raw b more

pub gives_string : (text : List ℕ) (at end : ℕ) → at < length text → get_or text at 0 ≡ 34 → (get_or text (at + 1) 0 == 34 && get_or text (at + 2) 0 == 34) ≡ false
    → at + 1 ≤ end → end < length text → string_len false (drop (at + 1) text) ≡ Some (end - (at + 1)) → GivesLexeme text at (Ok (shape.Str (record { from = at + 1; past = end }), end + 1))
gives_string text at end h q l le lt e =
    let t = drop (at + 1) text in
    let d = first_is text at 34 h q in
    let r = string_sound false t (end - (at + 1)) e in
    let w = 34 ∷ r.raw ++ 34 ∷ [] in
    let whole : drop at text ≡ 34 ∷ r.raw ++ 34 ∷ r.more = d ∙ ap (λ (x : List ℕ). 34 ∷ x) r.splits in
    let a = length-append r.raw (34 ∷ []) in
    let z = r.size in
    let part : take (end - (at + 1)) t ≡ r.raw = ap (λ (x : List ℕ). take (end - (at + 1)) x) r.splits ∙ take_at r.raw (34 ∷ r.more) (end - (at + 1)) (sym z) in
    let there : end ≡ (at + 1) + (end - (at + 1)) = omega (arith, le) in
    let close : get_or text end 0 ≡ 34 =
    ap (λ (k : ℕ). get_or text k 0) there ∙ sym (get_or-drop (at + 1) text (end - (at + 1)) 0) ∙ ap (λ (x : List ℕ). get_or x (end - (at + 1)) 0) r.splits
    ∙ ap (λ (k : ℕ). get_or (r.raw ++ 34 ∷ r.more) k 0) z ∙ first_behind r.raw 34 r.more in (
      (
        w,
        lined_longest (indent_at text at) (drop at text) w r.more (Some (Str (body_text false (take (end - (at + 1)) t)))) (whole ∙ ap (λ (x : List ℕ). 34 ∷ x) (sym (append_assoc r.raw (34 ∷ []) r.more)))
            (inl (r.raw, r.more, whole, long_is text at ∙ l, r.body, refl, ap (body_text false) part)),
        omega (arith, a, z, le),
      ),
      λ n z. cc,
      λ utf8. quoted_part text at end utf8 h (omega (arith, q)) le (omega arith) (omega (arith, close)),
      λ there z. no_long text at there (long_is text at ∙ l) z,
    )

pub not_quote : (text : List ℕ) (at b : ℕ) → get_or text at 0 ≡ b → (b ≡ 34 → ⊥) → get_or text at 0 ≡ 34 → ⊥
not_quote text at b e f g = f (sym e ∙ g)

pub hex_test : (text : List ℕ) (at a b : ℕ) (v : Bool) → a ≡ get_or text (at + 1) 0 → b ≡ get_or text (at + 2) 0 → v ≡ hex_starts (get_or text at 0) a b → hex_starts (get_or text at 0) (get_or text (at + 1) 0) (get_or text (at + 2) 0) ≡ v
hex_test text at a b v e f g = sym (g ∙ ap (λ (x : ℕ). hex_starts (get_or text at 0) x b) e ∙ ap (λ (x : ℕ). hex_starts (get_or text at 0) (get_or text (at + 1) 0) x) f)
