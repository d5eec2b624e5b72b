-- The digits, letters and the like that come first.
use Rattle.std.proofs.Common.{◌≡◌, ℕ, ◌<◌, ◌≤◌, ◌+◌, ◌*◌, ◌-◌, List, [], ◌∷◌, length, take, drop, get_or, sym, ap, ◌∙◌, arith, suc, zero, refl, cond, true, false, Bool, ◌||◌}
use Rattle.std.specs.List.{prefix_len, list_all}
use Rattle.std.proofs.lemmas.List.{drop_more}
use Rattle.std.specs.Str.{IsAscii}
use Rattle.std.proofs.lemmas.Bool.Decides.{nat_tests}
use Rattle.fp_base.specs.Names.{is_digit, is_name_byte}
use Rattle.fp_base.proofs.Bools.{and_left, and_right}
use Rattle.fp_lexer.specs.Bytes.{is_hex_digit, hex_digit}
use Rattle.fp_lexer.specs.Scan.{run_value, run_hex}
use Rattle.fp_lexer.specs.Tokens.{value_after, hex_after}

pub bool_cases : (b : Bool) (P : Type 0) → (b ≡ true → P) → (b ≡ false → P) → P
bool_cases true P t f = t refl
bool_cases false P t f = f refl

pub cond_true : {A : Type 0} (b : Bool) (x y : A) → b ≡ true → cond b x y ≡ x
cond_true b x y e = ap (λ (v : Bool). cond v x y) e

pub cond_false : {A : Type 0} (b : Bool) (x y : A) → b ≡ false → cond b x y ≡ y
cond_false b x y e = ap (λ (v : Bool). cond v x y) e

pub or_cases : (a b : Bool) (P : Type 0) → (a || b) ≡ true → (a ≡ true → P) → (b ≡ true → P) → P
or_cases true b P e f g = f refl
or_cases false b P e f g = g e

pub le_run_value : (n : ℕ) (xs : List ℕ) → n ≤ run_value n xs
le_run_value n [] = omega arith
le_run_value n (b ∷ bs) = bool_cases (is_digit b) _
    (λ e. let h = le_run_value (10 * n + (b - 48)) bs in let c = cond_true _ (run_value (10 * n + (b - 48)) bs) n e in omega (arith, h, c))
    (λ e. let c = cond_false _ (run_value (10 * n + (b - 48)) bs) n e in omega (arith, c))

pub run_value-is : (n : ℕ) (xs : List ℕ) → run_value n xs ≡ value_after n (take (prefix_len is_digit xs) xs)
run_value-is n [] = refl
run_value-is n (b ∷ bs) = bool_cases (is_digit b) _
    (λ e. rw e (let h : 1 + prefix_len is_digit bs ≡ suc (prefix_len is_digit bs) = omega arith in rw h (run_value-is (10 * n + (b - 48)) bs)))
    (λ e. rw e refl)

-- one digit more than fits
pub too_large : (n : ℕ) (xs : List ℕ) (i : ℕ) (m : ℕ) → i < length xs → is_digit (get_or xs i 0) ≡ true → m ≤ 10 * n + (get_or xs i 0 - 48) → m ≤ run_value n (drop i xs)
too_large n xs i m h e le =
    let d = drop_more xs i 0 h in
    let c = cond_true _ (run_value (10 * n + (get_or xs i 0 - 48)) (drop (i + 1) xs)) n e in
    let g = le_run_value (10 * n + (get_or xs i 0 - 48)) (drop (i + 1) xs) in
    rw d (omega (arith, c, g))

pub name_byte_ascii : (b : ℕ) → is_name_byte b ≡ true → b < 128
name_byte_ascii b e = grind (arith, nat_tests)

-- the bytes of names are ASCII
pub name_ascii : (bs : List ℕ) → list_all is_name_byte bs ≡ true → IsAscii bs
name_ascii [] e i = omega arith
name_ascii (b ∷ bs) e zero = name_byte_ascii b (and_left (is_name_byte b) (list_all is_name_byte bs) e)
name_ascii (b ∷ bs) e (suc i) = name_ascii bs (and_right (is_name_byte b) (list_all is_name_byte bs) e) i

-- ---- the same of hexadecimal digits

pub le_run_hex : (n : ℕ) (xs : List ℕ) → n ≤ run_hex n xs
le_run_hex n [] = omega arith
le_run_hex n (b ∷ bs) = bool_cases (is_hex_digit b) _
    (λ e. let h = le_run_hex (16 * n + hex_digit b) bs in let c = cond_true _ (run_hex (16 * n + hex_digit b) bs) n e in omega (arith, h, c))
    (λ e. let c = cond_false _ (run_hex (16 * n + hex_digit b) bs) n e in omega (arith, c))

pub run_hex-is : (n : ℕ) (xs : List ℕ) → run_hex n xs ≡ hex_after n (take (prefix_len is_hex_digit xs) xs)
run_hex-is n [] = refl
run_hex-is n (b ∷ bs) = bool_cases (is_hex_digit b) _
    (λ e.
    let p : prefix_len is_hex_digit (b ∷ bs) ≡ suc (prefix_len is_hex_digit bs) = cond_true (is_hex_digit b) (1 + prefix_len is_hex_digit bs) 0 e ∙ omega arith in
    cond_true (is_hex_digit b) (run_hex (16 * n + hex_digit b) bs) n e ∙ run_hex-is (16 * n + hex_digit b) bs ∙ sym (ap (λ (k : ℕ). hex_after n (take k (b ∷ bs))) p))
    (λ e. cond_false (is_hex_digit b) (run_hex (16 * n + hex_digit b) bs) n e ∙ sym (ap (λ (k : ℕ). hex_after n (take k (b ∷ bs))) (cond_false (is_hex_digit b) (1 + prefix_len is_hex_digit bs) 0 e)))

pub hex_too_large : (n : ℕ) (xs : List ℕ) (i : ℕ) (m : ℕ) → i < length xs → is_hex_digit (get_or xs i 0) ≡ true → m ≤ 16 * n + hex_digit (get_or xs i 0) → m ≤ run_hex n (drop i xs)
hex_too_large n xs i m h e le =
    let d = ap (run_hex n) (drop_more xs i 0 h) in
    let c = cond_true _ (run_hex (16 * n + hex_digit (get_or xs i 0)) (drop (i + 1) xs)) n e in
    let g = le_run_hex (16 * n + hex_digit (get_or xs i 0)) (drop (i + 1) xs) in
    omega (arith, d, c, g)
