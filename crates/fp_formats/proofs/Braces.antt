-- Where the braces of a text stand.
use Rattle.std.proofs.Common.{◌≡◌, ℕ, true, false, not, List, [], ◌∷◌, ◌++◌, refl, sym, ◌∙◌, ap, arith}
use Rattle.fp_base.proofs.Bools.{both, not_true}
use Rattle.fp_base.specs.Formats.{is_brace}
use Rattle.fp_formats.specs.Spelling.{has_no_brace}

pub opens : is_brace 123 ≡ true
opens = refl

pub closes : is_brace 125 ≡ true
closes = refl

-- a byte before which no brace stands and which is one itself
pub no_brace-head : (b : ℕ) (w : List ℕ) → has_no_brace (b ∷ w) ≡ true → is_brace b ≡ false
no_brace-head b w h = not_true (is_brace b) (both (not (is_brace b)) (has_no_brace w) h).0

pub no_brace-tail : (b : ℕ) (w : List ℕ) → has_no_brace (b ∷ w) ≡ true → has_no_brace w ≡ true
no_brace-tail b w h = (both (not (is_brace b)) (has_no_brace w) h).1

pub no_brace-cons : (b : ℕ) (w : List ℕ) → is_brace b ≡ false → has_no_brace w ≡ true → has_no_brace (b ∷ w) ≡ true
no_brace-cons b w e h = rw e h

not_brace : (b c : ℕ) → is_brace b ≡ false → b ≡ c → is_brace c ≡ true → ⊥
not_brace b c e p h = let q : is_brace b ≡ true = ap is_brace p ∙ h in cc (sym e, q)

-- a text without braces isn't closed
pub no_closing : (xs inside rest : List ℕ) → has_no_brace xs ≡ true → xs ≡ inside ++ (125 ∷ rest) → ⊥
no_closing [] [] rest h e = cc
no_closing [] (c ∷ inside) rest h e = cc
no_closing (x ∷ xs) [] rest h e = let p : x ≡ 125 = cc in not_brace x 125 (no_brace-head x xs h) p closes
no_closing (x ∷ xs) (c ∷ inside) rest h e =
    let p : xs ≡ inside ++ (125 ∷ rest) = cc in
    no_closing xs inside rest (no_brace-tail x xs h) p

-- an opening brace before any other isn't a closing one
pub opened_first : (a b inside rest : List ℕ) → has_no_brace a ≡ true → has_no_brace inside ≡ true → a ++ (123 ∷ b) ≡ inside ++ (125 ∷ rest) → ⊥
opened_first [] b [] rest h k e = let p : ◌≡◌ {A = ℕ} 123 125 = cc in absurd (omega (arith, p))
opened_first [] b (c ∷ inside) rest h k e = let p : c ≡ 123 = cc in not_brace c 123 (no_brace-head c inside k) p opens
opened_first (x ∷ a) b [] rest h k e = let p : x ≡ 125 = cc in not_brace x 125 (no_brace-head x a h) p closes
opened_first (x ∷ a) b (c ∷ inside) rest h k e =
    let p : a ++ (123 ∷ b) ≡ inside ++ (125 ∷ rest) = cc in
    opened_first a b inside rest (no_brace-tail x a h) (no_brace-tail c inside k) p

-- the first closing brace is one
pub same_closing : (v w x y : List ℕ) → has_no_brace v ≡ true → has_no_brace w ≡ true → v ++ (125 ∷ x) ≡ w ++ (125 ∷ y) → (v ≡ w) × (x ≡ y)
same_closing [] [] x y h k e = (refl, cc)
same_closing [] (c ∷ w) x y h k e = let p : c ≡ 125 = cc in absurd (not_brace c 125 (no_brace-head c w k) p closes)
same_closing (b ∷ v) [] x y h k e = let p : b ≡ 125 = cc in absurd (not_brace b 125 (no_brace-head b v h) p closes)
same_closing (b ∷ v) (c ∷ w) x y h k e =
    let p : v ++ (125 ∷ x) ≡ w ++ (125 ∷ y) = cc in
    let r = same_closing v w x y (no_brace-tail b v h) (no_brace-tail c w k) p in
    let q : b ≡ c = cc in
    let s : v ≡ w = r.0 in
    (cc, r.1)
