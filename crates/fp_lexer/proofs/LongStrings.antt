-- Strings between `"""`: one at most at a place, and the first bad escape in it.
use Rattle.std.proofs.Common.{◌≡◌, ℕ, ◌<◌, ◌≤◌, ◌+◌, List, [], ◌∷◌, ◌++◌, length, drop, get_or, Some, None, Option, sym, ap, ◌∙◌, arith, suc, zero, refl, true, false, Bool, not, ◌&&◌, length-append}
use Rattle.std.specs.Prelude.{◌==◌, slice_index, nat_lt, ◌-◌}
use Rattle.std.proofs.lemmas.Bool.{eqb-true, ne_eqb, ltb-true}
use Rattle.std.proofs.lemmas.List.{drop_more, drop_all}
use Rattle.fp_base.proofs.Bools.{and_left, and_right}
use Rattle.fp_lexer.specs.Bytes.{escapes, newline_len}
use Rattle.fp_lexer.specs.Scan.{long_len, bad_len, spaces, one_more, past_bytes}
use Rattle.fp_lexer.specs.Tokens.{IsLongBody}
use Rattle.fp_lexer.specs.Broken.{HasBadEscape}
use Rattle.fp_lexer.proofs.Runs.{bool_cases, cond_true, cond_false}
use Rattle.fp_lexer.proofs.Strings.{some_more, one_more_some, past_more}

-- it begins with `"""`
abbrev pub closes : List ℕ → Bool
closes [] = false
closes (b ∷ bs) = b == 34 && (slice_index bs 0 == 34 && slice_index bs 1 == 34)

-- bytes of a body before the first that closes it
pub record ReadLong (escaped : Bool) (t : List ℕ) (n : ℕ) : Type 0 where
  pub raw : List ℕ
  pub more : List ℕ
  pub splits : t ≡ raw ++ 34 ∷ 34 ∷ 34 ∷ more
  pub free : escapes escaped raw ≡ false
  pub size : n ≡ length raw

closed : (b : ℕ) (bs : List ℕ) (P : Type 0) → closes (b ∷ bs) ≡ true → ((more : List ℕ) → b ∷ bs ≡ 34 ∷ 34 ∷ 34 ∷ more → P) → P
closed b [] P e k = let f : false ≡ true = and_right (b == 34) false e in cc
closed b (c ∷ []) P e k = let f : false ≡ true = and_right (c == 34) false (and_right (b == 34) ((c == 34) && false) e) in cc
closed b (c ∷ d ∷ ds) P e k =
    let x = eqb-true b 34 (and_left (b == 34) (c == 34 && d == 34) e) in
    let r = and_right (b == 34) (c == 34 && d == 34) e in
    let y = eqb-true c 34 (and_left (c == 34) (d == 34) r) in
    let z = eqb-true d 34 (and_right (c == 34) (d == 34) r) in
    k ds (cc)

pub long_sound : (escaped : Bool) (t : List ℕ) (n : ℕ) → long_len escaped t ≡ Some n → ReadLong escaped t n
long_sound true [] n e = cc
long_sound false [] n e = cc
long_sound true (b ∷ bs) n e = one_more_some (long_len false bs) n _ e (λ m f j.
    let r = long_sound false bs m f in
    let size = r.size in
    record { raw = b ∷ r.raw; more = r.more; splits = ap (λ (x : List ℕ). b ∷ x) r.splits; free = r.free; size = omega (arith, size, j) })
long_sound false (b ∷ bs) n e = bool_cases (closes (b ∷ bs)) _
    (λ h. let x : Some 0 ≡ Some n = sym (cond_true (closes (b ∷ bs)) (Some 0) (one_more (long_len (b == 92) bs)) h) ∙ e in
    closed b bs _ h (λ more split. record { raw = []; more = more; splits = split; free = refl; size = cc }))
    (λ h. one_more_some (long_len (b == 92) bs) n _ (sym (cond_false (closes (b ∷ bs)) (Some 0) (one_more (long_len (b == 92) bs)) h) ∙ e) (λ m f j.
    let r = long_sound (b == 92) bs m f in
    let size = r.size in
    record { raw = b ∷ r.raw; more = r.more; splits = ap (λ (x : List ℕ). b ∷ x) r.splits; free = r.free; size = omega (arith, size, j) }))

-- what is read is no longer than any body
pub record ReadBefore (o : Option ℕ) (n : ℕ) : Type 0 where
  pub m : ℕ
  pub is : o ≡ Some m
  pub le : m ≤ n

before_more : (o : Option ℕ) (n : ℕ) → ReadBefore o n → ReadBefore (one_more o) (suc n)
before_more o n r = let le = r.le in record { m = suc r.m; is = ap one_more r.is ∙ some_more r.m; le = omega (arith, le) }

before_at : (o o' : Option ℕ) (n : ℕ) → o ≡ o' → ReadBefore o' n → ReadBefore o n
before_at o o' n e r = record { m = r.m; is = e ∙ r.is; le = r.le }

at_front : (o : Option ℕ) (n : ℕ) → o ≡ Some 0 → ReadBefore o n
at_front o n e = record { m = 0; is = e; le = omega arith }

pub long_least : (escaped : Bool) (raw more : List ℕ) → escapes escaped raw ≡ false → ReadBefore (long_len escaped (raw ++ 34 ∷ 34 ∷ 34 ∷ more)) (length raw)
long_least true [] more h = cc
long_least false [] more h = at_front _ 0 refl
long_least true (b ∷ bs) more h = before_more _ (length bs) (long_least false bs more h)
long_least false (b ∷ bs) more h =
    let t = bs ++ 34 ∷ 34 ∷ 34 ∷ more in
    bool_cases (closes (b ∷ t)) _
    (λ e. at_front _ (suc (length bs)) (cond_true (closes (b ∷ t)) (Some 0) (one_more (long_len (b == 92) t)) e))
    (λ e. before_at _ (one_more (long_len (b == 92) t)) (suc (length bs)) (cond_false (closes (b ∷ t)) (Some 0) (one_more (long_len (b == 92) t)) e)
    (before_more _ (length bs) (long_least (b == 92) bs more h)))

same_tail : (t u : List ℕ) → 34 ∷ 34 ∷ 34 ∷ t ≡ 34 ∷ 34 ∷ 34 ∷ u → t ≡ u
same_tail t u e = cc

same_size : (a b : ℕ) → Some a ≡ Some b → a ≡ b
same_size a b e = cc

-- a body is read
pub long_complete : (rest raw : List ℕ) (body : IsLongBody rest raw) → long_len false (raw ++ 34 ∷ 34 ∷ 34 ∷ body.more) ≡ Some (length raw)
long_complete rest raw body =
    let t = raw ++ 34 ∷ 34 ∷ 34 ∷ body.more in
    let r = long_least false raw body.more body.free in
    let s = long_sound false t r.m r.is in
    let le = r.le in
    let size = s.size in
    let ge = body.first s.raw s.more (body.splits ∙ ap (λ (x : List ℕ). 34 ∷ 34 ∷ 34 ∷ x) s.splits) s.free in
    r.is ∙ ap (λ (k : ℕ). Some k) (omega (arith, le, size, ge))

-- what is read is a body
pub long_body : (rest t : List ℕ) (n : ℕ) (r : ReadLong false t n) → rest ≡ 34 ∷ 34 ∷ 34 ∷ t → long_len false t ≡ Some n → IsLongBody rest r.raw
long_body rest t n r split e = record {
  more = r.more;
  splits = split ∙ ap (λ (x : List ℕ). 34 ∷ 34 ∷ 34 ∷ x) r.splits;
  free = r.free;
  first = λ shorter after other free.
      let tail = same_tail t (shorter ++ 34 ∷ 34 ∷ 34 ∷ after) (sym split ∙ other) in
      let l = long_least false shorter after free in
      let le = l.le in
      let same : l.m ≡ n = same_size l.m n (sym l.is ∙ sym (ap (long_len false) tail) ∙ e) in
      let size = r.size in
      omega (arith, le, same, size);
}

-- there is no body where none is read
pub long_none : (rest t raw : List ℕ) → rest ≡ 34 ∷ 34 ∷ 34 ∷ t → long_len false t ≡ None → IsLongBody rest raw → ⊥
long_none rest t raw split e body =
    let tail = same_tail t (raw ++ 34 ∷ 34 ∷ 34 ∷ body.more) (sym split ∙ body.splits) in
    let l = long_least false raw body.more body.free in
    let no : None ≡ Some l.m = sym e ∙ ap (long_len false) tail ∙ l.is in cc

-- ---- bad escapes

-- a bad escape behind so many bytes, behind a backslash or not
abbrev BadBehind : Bool → List ℕ → ℕ → Type 0
BadBehind escaped raw n = (before after : List ℕ) × (raw ≡ before ++ 92 ∷ after) × (n ≡ length before) × (escapes escaped before ≡ false) × (0 < newline_len after)

abbrev bad_first : ℕ → List ℕ → Bool
bad_first b bs = b == 92 && not (newline_len bs == 0)

not_zero : (n : ℕ) → not (n == 0) ≡ true → 0 < n
not_zero zero e = cc
not_zero (suc n) e = omega arith

is_not_zero : (n : ℕ) → 0 < n → not (n == 0) ≡ true
is_not_zero zero h = absurd (omega arith)
is_not_zero (suc n) h = ap not (ne_eqb (suc n) 0 (λ e. omega (arith, e)))

bad_sound : (escaped : Bool) (raw : List ℕ) (n : ℕ) → bad_len escaped raw ≡ Some n → BadBehind escaped raw n
bad_sound true [] n e = cc
bad_sound false [] n e = cc
bad_sound true (b ∷ bs) n e = one_more_some (bad_len false bs) n _ e (λ m f j.
    let r = bad_sound false bs m f in
    let size = r.3 in
    (b ∷ r.0, r.1, ap (λ (x : List ℕ). b ∷ x) r.2, omega (arith, size, j), r.4, r.5))
bad_sound false (b ∷ bs) n e = bool_cases (bad_first b bs) _
    (λ h. let x : Some 0 ≡ Some n = sym (cond_true (bad_first b bs) (Some 0) (one_more (bad_len (b == 92) bs)) h) ∙ e in
    ([], bs, ap (λ (c : ℕ). c ∷ bs) (eqb-true b 92 (and_left (b == 92) (not (newline_len bs == 0)) h)), sym (same_size 0 n x), refl, not_zero (newline_len bs) (and_right (b == 92) (not (newline_len bs == 0)) h)))
    (λ h. one_more_some (bad_len (b == 92) bs) n _ (sym (cond_false (bad_first b bs) (Some 0) (one_more (bad_len (b == 92) bs)) h) ∙ e) (λ m f j.
    let r = bad_sound (b == 92) bs m f in
    let size = r.3 in
    (b ∷ r.0, r.1, ap (λ (x : List ℕ). b ∷ x) r.2, omega (arith, size, j), r.4, r.5)))

bad_least : (escaped : Bool) (before after : List ℕ) → escapes escaped before ≡ false → 0 < newline_len after → ReadBefore (bad_len escaped (before ++ 92 ∷ after)) (length before)
bad_least true [] after h s = cc
bad_least false [] after h s = at_front _ 0 (cond_true (bad_first 92 after) (Some 0) (one_more (bad_len true after)) (is_not_zero (newline_len after) s))
bad_least true (b ∷ bs) after h s = before_more _ (length bs) (bad_least false bs after h s)
bad_least false (b ∷ bs) after h s =
    let t = bs ++ 92 ∷ after in
    bool_cases (bad_first b t) _
    (λ e. at_front _ (suc (length bs)) (cond_true (bad_first b t) (Some 0) (one_more (bad_len (b == 92) t)) e))
    (λ e. before_at _ (one_more (bad_len (b == 92) t)) (suc (length bs)) (cond_false (bad_first b t) (Some 0) (one_more (bad_len (b == 92) t)) e)
    (before_more _ (length bs) (bad_least (b == 92) bs after h s)))

pub bad_is : (raw : List ℕ) (n : ℕ) → bad_len false raw ≡ Some n → HasBadEscape raw n
bad_is raw n e = bad_sound false raw n e

pub bad_first_is : (raw : List ℕ) (n m : ℕ) → bad_len false raw ≡ Some n → HasBadEscape raw m → n ≤ m
bad_first_is raw n m e h =
    let l = bad_least false h.0 h.1 h.4 h.5 in
    let le = l.le in
    let size = h.3 in
    let same : l.m ≡ n = same_size l.m n (sym l.is ∙ sym (ap (bad_len false) h.2) ∙ e) in
    omega (arith, le, size, same)

pub bad_none : (raw : List ℕ) (m : ℕ) → bad_len false raw ≡ None → HasBadEscape raw m → ⊥
bad_none raw m e h =
    let l = bad_least false h.0 h.1 h.4 h.5 in
    let no : None ≡ Some l.m = sym e ∙ ap (bad_len false) h.2 ∙ l.is in cc

-- it stands within the body
pub bad_within : (raw : List ℕ) (n : ℕ) → HasBadEscape raw n → n < length raw
bad_within raw n h =
    let l = ap length h.2 in
    let a = length-append h.0 (92 ∷ h.1) in
    let size = h.3 in
    omega (arith, l, a, size)

pub same_front : (v w r s : List ℕ) → v ++ r ≡ w ++ s → length v ≡ length w → v ≡ w
same_front [] [] r s e l = refl
same_front [] (x ∷ w) r s e l = absurd (omega arith)
same_front (x ∷ v) [] r s e l = absurd (omega arith)
same_front (x ∷ v) (y ∷ w) r s e l =
    let t : v ++ r ≡ w ++ s = cc in
    let h : x ≡ y = cc in
    let f = same_front v w r s t (omega arith) in cc

-- one body at a place
pub same_body : (rest a b : List ℕ) → IsLongBody rest a → IsLongBody rest b → a ≡ b
same_body rest a b h k =
    let le = h.first b k.more k.splits k.free in
    let ge = k.first a h.more h.splits h.free in
    same_front a b (34 ∷ 34 ∷ 34 ∷ h.more) (34 ∷ 34 ∷ 34 ∷ k.more) (same_tail (a ++ 34 ∷ 34 ∷ 34 ∷ h.more) (b ++ 34 ∷ 34 ∷ 34 ∷ k.more) (sym h.splits ∙ k.splits)) (omega (arith, le, ge))

-- ---- one byte of the loop

bad_more : (escaped after : Bool) (xs : List ℕ) (at : ℕ) → bad_len escaped (drop at xs) ≡ one_more (bad_len after (drop (at + 1) xs)) → past_bytes (at + 1) (bad_len after (drop (at + 1) xs)) ≡ past_bytes at (bad_len escaped (drop at xs))
bad_more escaped after xs at e = sym (past_more at (bad_len after (drop (at + 1) xs))) ∙ ap (past_bytes at) (sym e)

pub bad_escaped : (escaped after : Bool) (xs : List ℕ) (at : ℕ) → at < length xs → escaped ≡ true → after ≡ false → past_bytes (at + 1) (bad_len after (drop (at + 1) xs)) ≡ past_bytes at (bad_len escaped (drop at xs))
bad_escaped escaped after xs at h e f = bad_more escaped after xs at
    (ap (λ (v : Bool). bad_len v (drop at xs)) e ∙ ap (bad_len true) (drop_more xs at 0 h) ∙ ap (λ (v : Bool). one_more (bad_len v (drop (at + 1) xs))) (sym f))

pub bad_free : (escaped after : Bool) (xs : List ℕ) (at : ℕ) → at < length xs → escaped ≡ false → (get_or xs at 0 == 92 && not (newline_len (drop (at + 1) xs) == 0)) ≡ false → after ≡ (get_or xs at 0 == 92)
    → past_bytes (at + 1) (bad_len after (drop (at + 1) xs)) ≡ past_bytes at (bad_len escaped (drop at xs))
bad_free escaped after xs at h e t f = bad_more escaped after xs at
    (ap (λ (v : Bool). bad_len v (drop at xs)) e ∙ ap (bad_len false) (drop_more xs at 0 h)
    ∙ cond_false (bad_first (get_or xs at 0) (drop (at + 1) xs)) (Some 0) (one_more (bad_len (get_or xs at 0 == 92) (drop (at + 1) xs))) t
    ∙ ap (λ (v : Bool). one_more (bad_len v (drop (at + 1) xs))) (sym f))

-- no space comes next, or no more are counted
pub spaces_stop : (xs : List ℕ) (at left : ℕ) → (0 < left → get_or xs at 0 ≡ 32 → ⊥) → spaces left (drop at xs) ≡ 0
spaces_stop [] at left f = ap (spaces left) (drop_all at [] (omega arith))
spaces_stop (x ∷ xs) (suc at) left f = spaces_stop xs at left f
spaces_stop (x ∷ xs) zero left f = bool_cases (x == 32 && nat_lt 0 left) _
    (λ e. absurd (f (ltb-true 0 left (and_right (x == 32) (nat_lt 0 left) e)) (eqb-true x 32 (and_left (x == 32) (nat_lt 0 left) e))))
    (λ e. cond_false (x == 32 && nat_lt 0 left) (1 + spaces (left - 1) xs) 0 e)
