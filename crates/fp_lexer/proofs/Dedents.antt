-- Leaving out spaces at the starts of lines.
use Rattle.std.proofs.Common.{◌≡◌, ℕ, ◌<◌, ◌≤◌, ◌+◌, ◌-◌, List, [], ◌∷◌, ◌++◌, length, take, drop, get_or, sym, ap, ◌∙◌, arith, suc, zero, refl, cond, true, false, Bool, ◌&&◌, drop-drop, get_or-drop, subst}
use Rattle.std.specs.Prelude.{◌==◌, nat_lt}
use Rattle.std.specs.Str.{IsUtf8, IsCharBoundary}
use Rattle.std.proofs.lemmas.Bool.{eqb-true, eq-eqb, ne_eqb}
use Rattle.std.proofs.lemmas.List.{drop_more}
use Rattle.std.proofs.lemmas.Str.{IsCharBoundary-after_ascii, IsCharBoundary-start}
use Rattle.fp_base.proofs.Bools.{and_left}
use Rattle.fp_lexer.specs.Bytes.{dedent, newline_len}
use Rattle.fp_lexer.specs.Scan.{spaces}
use Rattle.fp_lexer.proofs.Runs.{bool_cases, cond_true, cond_false}
use Rattle.fp_lexer.proofs.Lines.{newline_forms}
use Rattle.fp_lexer.proofs.Copies.{stays}

pub and_none : (b : Bool) → (b && false) ≡ false
and_none true = refl
and_none false = refl

dedent_step : (indent b : ℕ) (bs : List ℕ) → dedent indent 0 (b ∷ bs) ≡ b ∷ dedent indent (cond (b == 10) indent 0) bs
dedent_step indent b bs = cond_false (b == 32 && nat_lt 0 0) (dedent indent (0 - 1) bs) (b ∷ dedent indent (cond (b == 10) indent 0) bs) (and_none (b == 32))

-- the spaces that come first are left out
pub dedent_spaces : (indent left : ℕ) (xs : List ℕ) → dedent indent left xs ≡ dedent indent 0 (drop (spaces left xs) xs)
dedent_spaces indent left [] = refl
dedent_spaces indent left (b ∷ bs) = bool_cases (b == 32 && nat_lt 0 left) _
    (λ e.
    let n : spaces left (b ∷ bs) ≡ suc (spaces (left - 1) bs) = cond_true (b == 32 && nat_lt 0 left) (1 + spaces (left - 1) bs) 0 e ∙ omega arith in
    cond_true (b == 32 && nat_lt 0 left) (dedent indent (left - 1) bs) (b ∷ dedent indent (cond (b == 10) indent 0) bs) e ∙ dedent_spaces indent (left - 1) bs
    ∙ sym (ap (λ (k : ℕ). dedent indent 0 (drop k (b ∷ bs))) n))
    (λ e.
    let n : spaces left (b ∷ bs) ≡ 0 = cond_false (b == 32 && nat_lt 0 left) (1 + spaces (left - 1) bs) 0 e in
    cond_false (b == 32 && nat_lt 0 left) (dedent indent (left - 1) bs) (b ∷ dedent indent (cond (b == 10) indent 0) bs) e ∙ sym (dedent_step indent b bs)
    ∙ sym (ap (λ (k : ℕ). dedent indent 0 (drop k (b ∷ bs))) n))

-- where the text of a body begins
abbrev pub starts : ℕ → List ℕ → ℕ
starts indent xs = newline_len xs + cond (newline_len xs == 0) 0 (spaces indent (drop (newline_len xs) xs))

starts_behind : (indent : ℕ) (xs : List ℕ) (n : ℕ) → newline_len xs ≡ n → (n == 0) ≡ false → starts indent xs ≡ n + spaces indent (drop n xs)
starts_behind indent xs n e f =
    ap (λ (k : ℕ). k + cond (k == 0) 0 (spaces indent (drop k xs))) e ∙ ap (λ (k : ℕ). n + k) (cond_false (n == 0) 0 (spaces indent (drop n xs)) f)

pub dedent_front : (indent : ℕ) (xs : List ℕ) → drop (newline_len xs) (dedent indent 0 xs) ≡ dedent indent 0 (drop (starts indent xs) xs)
dedent_front indent xs = newline_forms xs _
    (λ z. ap (λ (k : ℕ). drop k (dedent indent 0 xs)) z ∙ sym (ap (λ (k : ℕ). dedent indent 0 (drop (k + cond (k == 0) 0 (spaces indent (drop k xs))) xs)) z))
    (λ t e n.
    let first : drop (newline_len xs) (dedent indent 0 xs) ≡ dedent indent indent t = ap (λ (k : ℕ). drop k (dedent indent 0 xs)) n ∙ ap (λ (x : List ℕ). drop 1 (dedent indent 0 x)) e in
    let s : starts indent xs ≡ suc (spaces indent t) = starts_behind indent xs 1 n refl ∙ ap (λ (x : List ℕ). 1 + spaces indent (drop 1 x)) e ∙ omega arith in
    first ∙ dedent_spaces indent indent t ∙ sym (ap (λ (k : ℕ). dedent indent 0 (drop k xs)) s ∙ ap (λ (x : List ℕ). dedent indent 0 (drop (suc (spaces indent t)) x)) e))
    (λ t e n.
    let first : drop (newline_len xs) (dedent indent 0 xs) ≡ dedent indent indent t = ap (λ (k : ℕ). drop k (dedent indent 0 xs)) n ∙ ap (λ (x : List ℕ). drop 2 (dedent indent 0 x)) e in
    let s : starts indent xs ≡ suc (suc (spaces indent t)) = starts_behind indent xs 2 n refl ∙ ap (λ (x : List ℕ). 2 + spaces indent (drop 2 x)) e ∙ omega arith in
    first ∙ dedent_spaces indent indent t ∙ sym (ap (λ (k : ℕ). dedent indent 0 (drop k xs)) s ∙ ap (λ (x : List ℕ). dedent indent 0 (drop (suc (suc (spaces indent t))) x)) e))

-- ---- one byte of the loop

pub other_byte : (text xs : List ℕ) (from at indent : ℕ) → from ≤ at → at < length xs → (get_or xs at 0 ≡ 10 → ⊥)
    → text ++ take ((at + 1) - from) (drop from xs) ++ dedent indent 0 (drop (at + 1) xs) ≡ text ++ take (at - from) (drop from xs) ++ dedent indent 0 (drop at xs)
other_byte text xs from at indent le h other =
    let rest : dedent indent 0 (drop at xs) ≡ get_or xs at 0 ∷ dedent indent 0 (drop (at + 1) xs) =
    ap (dedent indent 0) (drop_more xs at 0 h) ∙ dedent_step indent (get_or xs at 0) (drop (at + 1) xs)
    ∙ ap (λ (k : ℕ). get_or xs at 0 ∷ dedent indent k (drop (at + 1) xs)) (cond_false (get_or xs at 0 == 10) indent 0 (ne_eqb (get_or xs at 0) 10 other)) in
    stays text xs (dedent indent 0 (drop (at + 1) xs)) from at le h ∙ sym (ap (λ (r : List ℕ). text ++ take (at - from) (drop from xs) ++ r) rest)

-- behind a newline and the spaces that are left out
pub newline_byte : (text new xs : List ℕ) (from at indent next : ℕ) → from ≤ at → at < length xs → get_or xs at 0 ≡ 10 → new ≡ text ++ take ((at + 1) - from) (drop from xs)
    → next ≡ (at + 1) + spaces indent (drop (at + 1) xs) → new ++ take (next - next) (drop next xs) ++ dedent indent 0 (drop next xs) ≡ text ++ take (at - from) (drop from xs) ++ dedent indent 0 (drop at xs)
newline_byte text new xs from at indent next le h nl copied e =
    let tail = drop (at + 1) xs in
    let none : next - next ≡ 0 = omega arith in
    let there : drop (spaces indent tail) tail ≡ drop next xs = drop-drop (spaces indent tail) (at + 1) xs ∙ ap (λ (k : ℕ). drop k xs) (sym e) in
    let rest : dedent indent 0 (drop at xs) ≡ get_or xs at 0 ∷ dedent indent 0 (drop next xs) =
    ap (dedent indent 0) (drop_more xs at 0 h) ∙ dedent_step indent (get_or xs at 0) tail
    ∙ ap (λ (k : ℕ). get_or xs at 0 ∷ dedent indent k tail) (cond_true (get_or xs at 0 == 10) indent 0 (eq-eqb (get_or xs at 0) 10 nl))
    ∙ ap (λ (r : List ℕ). get_or xs at 0 ∷ r) (dedent_spaces indent indent tail ∙ ap (dedent indent 0) there) in
    ap (λ (k : ℕ). new ++ take k (drop next xs) ++ dedent indent 0 (drop next xs)) none
    ∙ ap (λ (x : List ℕ). x ++ [] ++ dedent indent 0 (drop next xs)) copied
    ∙ no_more (text ++ take ((at + 1) - from) (drop from xs)) (dedent indent 0 (drop next xs))
    ∙ stays text xs (dedent indent 0 (drop next xs)) from at le h
    ∙ sym (ap (λ (r : List ℕ). text ++ take (at - from) (drop from xs) ++ r) rest)
  where
    no_more : (a r : List ℕ) → a ++ [] ++ r ≡ a ++ r
    no_more [] r = refl
    no_more (x ∷ a) r = ap (λ (y : List ℕ). x ∷ y) (no_more a r)

-- ---- characters

spaces_last : (left : ℕ) (xs : List ℕ) (n : ℕ) → spaces left xs ≡ suc n → get_or xs n 0 ≡ 32
spaces_last left [] n e = absurd (omega (arith, e))
spaces_last left (b ∷ bs) n e = bool_cases (b == 32 && nat_lt 0 left) _
    (λ t. let c : 1 + spaces (left - 1) bs ≡ suc n = sym (cond_true (b == 32 && nat_lt 0 left) (1 + spaces (left - 1) bs) 0 t) ∙ e in
    by_rest (λ m h. spaces_last (left - 1) bs m h) n c (eqb-true b 32 (and_left (b == 32) (nat_lt 0 left) t)))
    (λ t. let c : 0 ≡ suc n = sym (cond_false (b == 32 && nat_lt 0 left) (1 + spaces (left - 1) bs) 0 t) ∙ e in absurd (omega (arith, c)))
  where
    by_rest : ((m : ℕ) → spaces (left - 1) bs ≡ suc m → get_or bs m 0 ≡ 32) → (n : ℕ) → 1 + spaces (left - 1) bs ≡ suc n → b ≡ 32 → get_or (b ∷ bs) n 0 ≡ 32
    by_rest rest zero c x = x
    by_rest rest (suc n) c x = rest n (omega (arith, c))

-- behind the spaces that come first, where a character begins before them
pub spaces_part : (xs : List ℕ) (from left : ℕ) → IsUtf8 xs → from ≤ length xs → from + spaces left (drop from xs) ≤ length xs → IsCharBoundary xs from → IsCharBoundary xs (from + spaces left (drop from xs))
spaces_part xs from left utf8 h le here = by_count (spaces left (drop from xs)) refl
  where
    by_count : (n : ℕ) → spaces left (drop from xs) ≡ n → IsCharBoundary xs (from + spaces left (drop from xs))
    by_count zero e = subst (λ (k : ℕ). IsCharBoundary xs k) (omega (arith, e)) here
    by_count (suc n) e =
        let last : get_or xs (from + n) 0 ≡ 32 = sym (get_or-drop from xs n 0) ∙ spaces_last left (drop from xs) n e in
        subst (λ (k : ℕ). IsCharBoundary xs k) (omega (arith, e)) (IsCharBoundary-after_ascii xs (from + n) utf8 (omega (arith, e, le)) (omega (arith, last)))

pub newline_part : (xs : List ℕ) (at : ℕ) → IsUtf8 xs → at < length xs → get_or xs at 0 ≡ 10 → IsCharBoundary xs (at + 1)
newline_part xs at utf8 h e = IsCharBoundary-after_ascii xs at utf8 h (omega (arith, e))

-- where the text of a body begins a character begins
pub starts_part : (xs : List ℕ) (indent : ℕ) → IsUtf8 xs → starts indent xs ≤ length xs → IsCharBoundary xs (starts indent xs)
starts_part xs indent utf8 le = newline_forms xs _
    (λ z. subst (λ (k : ℕ). IsCharBoundary xs k) (sym (ap (λ (k : ℕ). k + cond (k == 0) 0 (spaces indent (drop k xs))) z)) (IsCharBoundary-start xs utf8))
    (λ t e n. behind 0 1 n refl (omega arith) (let l = ap length e in omega (arith, l)) (ap (λ (x : List ℕ). get_or x 0 0) e))
    (λ t e n. behind 1 2 n refl (omega arith) (let l = ap length e in omega (arith, l)) (ap (λ (x : List ℕ). get_or x 1 0) e))
  where
    behind : (m n : ℕ) → newline_len xs ≡ n → (n == 0) ≡ false → n ≡ m + 1 → m < length xs → get_or xs m 0 ≡ 10 → IsCharBoundary xs (starts indent xs)
    behind m n z f e h nl =
        let s = starts_behind indent xs n z f in
        subst (λ (k : ℕ). IsCharBoundary xs k) (sym s)
        (spaces_part xs n indent utf8 (omega (arith, e, h)) (omega (arith, s, le)) (subst (λ (k : ℕ). IsCharBoundary xs k) (sym e) (newline_part xs m utf8 h nl)))
