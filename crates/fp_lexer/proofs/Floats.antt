-- Where digits stand, and behind them a fraction or an exponent, they are a float, and no float there is longer.
use Rattle.std.proofs.Common.{◌≡◌, ℕ, ◌<◌, ◌≤◌, ◌+◌, List, [], ◌∷◌, ◌++◌, length, drop, get_or, sym, ap, ◌∙◌, arith, suc, zero, refl, cond, true, false, Bool, subst, ◌&&◌, ◌||◌, append_assoc, length-append, length-take, drop_at, take}
use Rattle.std.specs.Prelude.{◌==◌}
use Rattle.std.specs.List.{list_all, prefix_len}
use Rattle.std.proofs.lemmas.List.Sums.{prefix_len-le-length}
use Rattle.std.proofs.lemmas.Bool.{ne_eqb, eqb-true, eqb-false}
use Rattle.std.proofs.lemmas.Bool.Decides.{nat_tests}
use Rattle.fp_base.specs.Names.{is_digit}
use Rattle.fp_base.proofs.Bools.{and_left, and_right}
use Rattle.fp_lexer.specs.Scan.{fraction_len, sign_len, signed_at, signed_len, exponent_len, tail_len, float_len}
use Rattle.fp_lexer.specs.Tokens.{is_number, is_fraction, is_signed, is_exponent, IsFloat}
use Rattle.fp_lexer.proofs.Runs.{bool_cases, cond_true, cond_false}
use Rattle.fp_lexer.proofs.Longest.{all_le_prefix, prefix_all}

pub prefix_exact : (p : ℕ → Bool) (v s : List ℕ) → list_all p v ≡ true → p (get_or s 0 0) ≡ false → prefix_len p (v ++ s) ≡ length v
prefix_exact p [] [] e f = refl
prefix_exact p [] (c ∷ s) e f = cond_false (p c) (1 + prefix_len p s) 0 f
prefix_exact p (x ∷ v) s e f =
    let h = prefix_exact p v s (and_right (p x) (list_all p v) e) f in
    let c = cond_true (p x) (1 + prefix_len p (v ++ s)) 0 (and_left (p x) (list_all p v) e) in
    omega (arith, h, c)

pub number_all : (ds : List ℕ) → is_number ds ≡ true → list_all is_digit ds ≡ true
number_all [] e = refl
number_all (d ∷ ds) e = e

number_some : (ds : List ℕ) → is_number ds ≡ true → 0 < length ds
number_some [] e = cc
number_some (d ∷ ds) e = omega arith

-- digits after a sign of k bytes
signed_digits : (k : ℕ) (r ds after : List ℕ) → drop k r ≡ ds ++ after → is_number ds ≡ true → k + length ds ≤ signed_at k r
signed_digits k r ds after e n =
    let le = all_le_prefix is_digit ds after (number_all ds n) in
    let same = ap (prefix_len is_digit) e in
    let some = number_some ds n in
    let c = cond_false (prefix_len is_digit (drop k r) == 0) 0 (k + prefix_len is_digit (drop k r)) (ne_eqb (prefix_len is_digit (drop k r)) 0 (λ z. omega (arith, le, same, some, z))) in
    omega (arith, le, same, c)

signed_bound : (es after : List ℕ) → is_signed es ≡ true → length es ≤ signed_len (es ++ after)
signed_bound [] after h = cc
signed_bound (x ∷ ys) after h = bool_cases (x == 43 || x == 45) _
    (λ e.
    let s : sign_len (x ∷ ys ++ after) ≡ 1 = cond_true (x == 43 || x == 45) 1 0 e in
    let n : is_number ys ≡ true = sym (cond_true (x == 43 || x == 45) (is_number ys) (is_number (x ∷ ys)) e) ∙ h in
    let d = signed_digits 1 (x ∷ ys ++ after) ys after refl n in
    let same = ap (λ (k : ℕ). signed_at k (x ∷ ys ++ after)) s in
    omega (arith, d, same))
    (λ e.
    let s : sign_len (x ∷ ys ++ after) ≡ 0 = cond_false (x == 43 || x == 45) 1 0 e in
    let n : is_number (x ∷ ys) ≡ true = sym (cond_false (x == 43 || x == 45) (is_number ys) (is_number (x ∷ ys)) e) ∙ h in
    let d = signed_digits 0 (x ∷ ys ++ after) (x ∷ ys) after refl n in
    let same = ap (λ (k : ℕ). signed_at k (x ∷ ys ++ after)) s in
    omega (arith, d, same))

signed_some : (es : List ℕ) → is_signed es ≡ true → 0 < length es
signed_some [] h = cc
signed_some (x ∷ xs) h = omega arith

exponent_bound : (e after : List ℕ) → is_exponent e ≡ true → length e ≤ exponent_len (e ++ after)
exponent_bound [] after h = omega arith
exponent_bound (c ∷ es) after h =
    let i = and_left (c == 101 || c == 69) (is_signed es) h in
    let s = and_right (c == 101 || c == 69) (is_signed es) h in
    let b = signed_bound es after s in
    let p = signed_some es s in
    let a = cond_true (c == 101 || c == 69) (cond (signed_len (es ++ after) == 0) 0 (1 + signed_len (es ++ after))) 0 i in
    let d = cond_false (signed_len (es ++ after) == 0) 0 (1 + signed_len (es ++ after)) (ne_eqb (signed_len (es ++ after)) 0 (λ z. omega (arith, b, p, z))) in
    omega (arith, a, d, b)

e_no_digit : (c : ℕ) → (c == 101 || c == 69) ≡ true → is_digit c ≡ false
e_no_digit c e = grind (arith, nat_tests)

e_no_dot : (c : ℕ) → (c == 101 || c == 69) ≡ true → (c == 46) ≡ false
e_no_dot c e = grind (arith, nat_tests)

-- what stands behind the digits
tail_bound : (f e after : List ℕ) → is_fraction f ≡ true → is_exponent e ≡ true → length (f ++ e) ≤ tail_len (f ++ (e ++ after))
tail_bound [] [] after x y = omega arith
tail_bound [] (c ∷ es) after x y =
    let z : fraction_len (c ∷ es ++ after) ≡ 0 = cond_false (c == 46) (1 + prefix_len is_digit (es ++ after)) 0 (e_no_dot c (and_left (c == 101 || c == 69) (is_signed es) y)) in
    let b = exponent_bound (c ∷ es) after y in
    let same = ap (λ (k : ℕ). k + exponent_len (drop k (c ∷ es ++ after))) z in
    omega (arith, b, same)
tail_bound (b ∷ bs) [] after x y =
    let t = cond_true (b == 46) (1 + prefix_len is_digit (bs ++ after)) 0 (and_left (b == 46) (list_all is_digit bs) x) in
    let le = all_le_prefix is_digit bs after (and_right (b == 46) (list_all is_digit bs) x) in
    let l = length-append bs [] in
    omega (arith, t, le, l)
tail_bound (b ∷ bs) (c ∷ es) after x y =
    let r = bs ++ (c ∷ es ++ after) in
    let t = cond_true (b == 46) (1 + prefix_len is_digit r) 0 (and_left (b == 46) (list_all is_digit bs) x) in
    let exact = prefix_exact is_digit bs (c ∷ es ++ after) (and_right (b == 46) (list_all is_digit bs) x) (e_no_digit c (and_left (c == 101 || c == 69) (is_signed es) y)) in
    let whole : fraction_len (b ∷ r) ≡ suc (length bs) = omega (arith, t, exact) in
    let rest : drop (suc (length bs)) (b ∷ r) ≡ c ∷ es ++ after = drop_at bs (c ∷ es ++ after) (length bs) refl in
    let same = ap (λ (k : ℕ). k + exponent_len (drop k (b ∷ r))) whole in
    let same2 = ap exponent_len rest in
    let e = exponent_bound (c ∷ es) after y in
    let l = length-append bs (c ∷ es) in
    omega (arith, same, same2, e, l)

tail_first : (f e after : List ℕ) → is_fraction f ≡ true → is_exponent e ≡ true → 0 < length (f ++ e) → is_digit (get_or (f ++ (e ++ after)) 0 0) ≡ false
tail_first [] [] after x y h = absurd (omega arith)
tail_first [] (c ∷ es) after x y h = e_no_digit c (and_left (c == 101 || c == 69) (is_signed es) y)
tail_first (b ∷ bs) e after x y h = ap is_digit (eqb-true b 46 (and_left (b == 46) (list_all is_digit bs) x))

pub float_bound : (xs v after : List ℕ) → IsFloat v → xs ≡ v ++ after → length v ≤ float_len xs
float_bound xs v after i split =
    let ds = i.0 in let f = i.1 in let e = i.2 in
    let number = i.4 in let fraction = i.5 in let exponent = i.6 in
    let whole : xs ≡ ds ++ (f ++ (e ++ after)) = split ∙ ap (λ (x : List ℕ). x ++ after) i.3 ∙ append_assoc ds (f ++ e) after ∙ ap (λ (x : List ℕ). ds ++ x) (append_assoc f e after) in
    let n : prefix_len is_digit xs ≡ length ds = ap (prefix_len is_digit) whole ∙ prefix_exact is_digit ds (f ++ (e ++ after)) (number_all ds number) (tail_first f e after fraction exponent i.7) in
    let rest : drop (prefix_len is_digit xs) xs ≡ f ++ (e ++ after) = ap (λ (k : ℕ). drop k xs) n ∙ ap (drop (length ds)) whole ∙ drop_at ds (f ++ (e ++ after)) (length ds) refl in
    let t = tail_bound f e after fraction exponent in
    let same = ap tail_len rest in
    let l = ap length i.3 in
    let m = length-append ds (f ++ e) in
    omega (arith, n, t, same, l, m)

-- a float goes on behind its digits
pub float_digits : (xs v after : List ℕ) → IsFloat v → xs ≡ v ++ after → prefix_len is_digit xs < length v
float_digits xs v after i split =
    let ds = i.0 in let f = i.1 in let e = i.2 in
    let some = i.7 in
    let whole : xs ≡ ds ++ (f ++ (e ++ after)) = split ∙ ap (λ (x : List ℕ). x ++ after) i.3 ∙ append_assoc ds (f ++ e) after ∙ ap (λ (x : List ℕ). ds ++ x) (append_assoc f e after) in
    let n : prefix_len is_digit xs ≡ length ds = ap (prefix_len is_digit) whole ∙ prefix_exact is_digit ds (f ++ (e ++ after)) (number_all ds i.4) (tail_first f e after i.5 i.6 i.7) in
    let l = ap length i.3 in
    let m = length-append ds (f ++ e) in
    omega (arith, n, l, m, some)

x_no_digit : (x : ℕ) → (x == 120 || x == 88) ≡ true → is_digit x ≡ false
x_no_digit x e = grind (arith, nat_tests)

x_no_dot : (x : ℕ) → (x == 120 || x == 88) ≡ true → (x == 46) ≡ false
x_no_dot x e = grind (arith, nat_tests)

x_no_e : (x : ℕ) → (x == 120 || x == 88) ≡ true → (x == 101 || x == 69) ≡ false
x_no_e x e = grind (arith, nat_tests)

-- no float begins with `0x` and goes on behind the `0`
pub hex_float : (x : ℕ) (t : List ℕ) → (x == 120 || x == 88) ≡ true → float_len (48 ∷ x ∷ t) ≡ 1
hex_float x t e =
    let digits : prefix_len is_digit (48 ∷ x ∷ t) ≡ 1 = ap (λ (k : ℕ). 1 + k) (cond_false (is_digit x) (1 + prefix_len is_digit t) 0 (x_no_digit x e)) in
    let none : fraction_len (x ∷ t) ≡ 0 = cond_false (x == 46) (1 + prefix_len is_digit t) 0 (x_no_dot x e) in
    let bare : exponent_len (x ∷ t) ≡ 0 = cond_false (x == 101 || x == 69) (cond (signed_len t == 0) 0 (1 + signed_len t)) 0 (x_no_e x e) in
    let same = ap (λ (k : ℕ). k + tail_len (drop k (48 ∷ x ∷ t))) digits in
    let tail = ap (λ (k : ℕ). k + exponent_len (drop k (x ∷ t))) none in
    omega (arith, same, tail, bare)

-- ---- what stands there is a float

run_all : (p : ℕ → Bool) (xs : List ℕ) → list_all p (take (prefix_len p xs) xs) ≡ true
run_all p xs = prefix_all p xs

run_size : (p : ℕ → Bool) (xs : List ℕ) → length (take (prefix_len p xs) xs) ≡ prefix_len p xs
run_size p xs = let l = length-take (prefix_len p xs) xs in let m = prefix_len-le-length p xs in omega (arith, l, m)

pub some_number : (ds : List ℕ) → 0 < length ds → list_all is_digit ds ≡ true → is_number ds ≡ true
some_number [] h e = absurd (omega arith)
some_number (d ∷ ds) h e = e

run_number : (xs : List ℕ) → 0 < prefix_len is_digit xs → is_number (take (prefix_len is_digit xs) xs) ≡ true
run_number xs h = let s = run_size is_digit xs in some_number (take (prefix_len is_digit xs) xs) (omega (arith, s, h)) (run_all is_digit xs)

-- a front, and how long it is
abbrev IsFront : (List ℕ → Bool) → ℕ → List ℕ → Type 0
IsFront p n r = (p (take n r) ≡ true) × (length (take n r) ≡ n)

front_at : (p : List ℕ → Bool) (n m : ℕ) (r : List ℕ) → n ≡ m → IsFront p m r → IsFront p n r
front_at p n m r e f = subst (λ (k : ℕ). IsFront p k r) (sym e) f

fraction_front : (r : List ℕ) → IsFront is_fraction (fraction_len r) r
fraction_front [] = (refl, refl)
fraction_front (b ∷ r) = bool_cases (b == 46) _
    (λ e.
    let p = prefix_len is_digit r in
    let c : fraction_len (b ∷ r) ≡ suc p = cond_true (b == 46) (1 + p) 0 e ∙ omega arith in
    front_at is_fraction (fraction_len (b ∷ r)) (suc p) (b ∷ r) c (ap (λ (v : Bool). v && list_all is_digit (take p r)) e ∙ run_all is_digit r, ap suc (run_size is_digit r)))
    (λ e. front_at is_fraction (fraction_len (b ∷ r)) 0 (b ∷ r) (cond_false (b == 46) (1 + prefix_len is_digit r) 0 e) (refl, refl))

digit_no_sign : (d : ℕ) → is_digit d ≡ true → (d == 43 || d == 45) ≡ false
digit_no_sign d e = grind (arith, nat_tests)

number_signed : (ds : List ℕ) → is_number ds ≡ true → is_signed ds ≡ true
number_signed [] e = cc
number_signed (d ∷ ds) e = cond_false (d == 43 || d == 45) (is_number ds) (is_number (d ∷ ds)) (digit_no_sign d (and_left (is_digit d) (list_all is_digit ds) e)) ∙ e

-- digits behind a sign of k bytes
signed_size : (k : ℕ) (r : List ℕ) → (signed_at k r ≡ 0 → ⊥) → (0 < prefix_len is_digit (drop k r)) × (signed_at k r ≡ k + prefix_len is_digit (drop k r))
signed_size k r some = bool_cases (prefix_len is_digit (drop k r) == 0) _
    (λ e. absurd (some (cond_true (prefix_len is_digit (drop k r) == 0) 0 (k + prefix_len is_digit (drop k r)) e)))
    (λ e. let n = eqb-false (prefix_len is_digit (drop k r)) 0 e in (omega (arith, n), cond_false (prefix_len is_digit (drop k r) == 0) 0 (k + prefix_len is_digit (drop k r)) e))

signed_front : (r : List ℕ) → (signed_len r ≡ 0 → ⊥) → IsFront is_signed (signed_len r) r
signed_front [] some = absurd (some refl)
signed_front (b ∷ r) some = bool_cases (b == 43 || b == 45) _
    (λ e.
    let k : sign_len (b ∷ r) ≡ 1 = cond_true (b == 43 || b == 45) 1 0 e in
    let same = ap (λ (k : ℕ). signed_at k (b ∷ r)) k in
    let s = signed_size 1 (b ∷ r) (λ z. some (same ∙ z)) in
    let p = prefix_len is_digit r in
    let size : signed_len (b ∷ r) ≡ suc p = same ∙ s.1 ∙ omega arith in
    front_at is_signed (signed_len (b ∷ r)) (suc p) (b ∷ r) size
    (cond_true (b == 43 || b == 45) (is_number (take p r)) (is_number (b ∷ take p r)) e ∙ run_number r s.0, ap suc (run_size is_digit r)))
    (λ e.
    let k : sign_len (b ∷ r) ≡ 0 = cond_false (b == 43 || b == 45) 1 0 e in
    let same = ap (λ (k : ℕ). signed_at k (b ∷ r)) k in
    let s = signed_size 0 (b ∷ r) (λ z. some (same ∙ z)) in
    let p = prefix_len is_digit (b ∷ r) in
    let size : signed_len (b ∷ r) ≡ p = same ∙ s.1 ∙ omega arith in
    front_at is_signed (signed_len (b ∷ r)) p (b ∷ r) size (number_signed (take p (b ∷ r)) (run_number (b ∷ r) s.0), run_size is_digit (b ∷ r)))

exponent_front : (r : List ℕ) → IsFront is_exponent (exponent_len r) r
exponent_front [] = (refl, refl)
exponent_front (b ∷ r) =
    let inner = cond (signed_len r == 0) 0 (1 + signed_len r) in
    bool_cases (b == 101 || b == 69) _
    (λ e.
    let c : exponent_len (b ∷ r) ≡ inner = cond_true (b == 101 || b == 69) inner 0 e in
    bool_cases (signed_len r == 0) _
    (λ z. front_at is_exponent (exponent_len (b ∷ r)) 0 (b ∷ r) (c ∙ cond_true (signed_len r == 0) 0 (1 + signed_len r) z) (refl, refl))
    (λ z.
    let f = signed_front r (eqb-false (signed_len r) 0 z) in
    let size : exponent_len (b ∷ r) ≡ suc (signed_len r) = c ∙ cond_false (signed_len r == 0) 0 (1 + signed_len r) z ∙ omega arith in
    front_at is_exponent (exponent_len (b ∷ r)) (suc (signed_len r)) (b ∷ r) size (ap (λ (v : Bool). v && is_signed (take (signed_len r) r)) e ∙ f.0, ap suc f.1)))
    (λ e. front_at is_exponent (exponent_len (b ∷ r)) 0 (b ∷ r) (cond_false (b == 101 || b == 69) inner 0 e) (refl, refl))

take_none : (m : ℕ) → take {A = ℕ} m [] ≡ []
take_none zero = refl
take_none (suc m) = refl

take_two : (n m : ℕ) (xs : List ℕ) → take (n + m) xs ≡ take n xs ++ take m (drop n xs)
take_two zero m xs = ap (λ (k : ℕ). take k xs) (omega arith)
take_two (suc n) m [] = take_none (suc n + m) ∙ sym (take_none m)
take_two (suc n) m (x ∷ xs) =
    let e : suc n + m ≡ suc (n + m) = omega arith in
    ap (λ (k : ℕ). take k (x ∷ xs)) e ∙ ap (λ (r : List ℕ). x ∷ r) (take_two n m xs)

pub float_here : (xs : List ℕ) → 0 < prefix_len is_digit xs → 0 < tail_len (drop (prefix_len is_digit xs) xs) → IsFloat (take (float_len xs) xs)
float_here xs some more =
    let n = prefix_len is_digit xs in
    let r = drop n xs in
    let f = fraction_front r in
    let e = exponent_front (drop (fraction_len r) r) in
    let l = length-append (take (fraction_len r) r) (take (exponent_len (drop (fraction_len r) r)) (drop (fraction_len r) r)) in
    let a = f.1 in
    let b = e.1 in (
      take n xs,
      take (fraction_len r) r,
      take (exponent_len (drop (fraction_len r) r)) (drop (fraction_len r) r),
      take_two n (tail_len r) xs ∙ ap (λ (x : List ℕ). take n xs ++ x) (take_two (fraction_len r) (exponent_len (drop (fraction_len r) r)) r),
      run_number xs some,
      f.0,
      e.0,
      omega (arith, l, a, b, more),
    )

pub float_size : (xs : List ℕ) → length (take (float_len xs) xs) ≡ float_len xs
float_size xs =
    let n = prefix_len is_digit xs in
    let r = drop n xs in
    let f = fraction_front r in
    let e = exponent_front (drop (fraction_len r) r) in
    let g = run_size is_digit xs in
    let l = ap length (take_two n (tail_len r) xs) in
    let m = length-append (take n xs) (take (tail_len r) r) in
    let o = ap length (take_two (fraction_len r) (exponent_len (drop (fraction_len r) r)) r) in
    let p = length-append (take (fraction_len r) r) (take (exponent_len (drop (fraction_len r) r)) (drop (fraction_len r) r)) in
    let a = f.1 in
    let b = e.1 in
    omega (arith, g, l, m, o, p, a, b)
