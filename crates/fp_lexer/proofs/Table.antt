-- A table of borrowed texts, and the rows of the table of reserved words.
use Rattle.std.proofs.Common.{◌≡◌, ℕ, ◌<◌, ◌≤◌, List, [], ◌∷◌, length, map, slice_get, get_or, Some, Bor, arith, suc, zero, refl, ◌+◌, ◌&&◌, Bool, true, false, cond, subst}
use Rattle.std.specs.Prelude.{nat_le, nat_lt, ◌==◌, slice_index}
use Rattle.std.proofs.lemmas.Bool.{leb-true, ltb-true}
use Rattle.std.proofs.lemmas.Option.{same_Some}
use Rattle.fp_base.proofs.Bools.{and_left, and_right}
use Rattle.fp_lexer.specs.Words.{words}
use Rattle.fp_lexer.specs.Scan.{rows, rows_in, rows_of}

abbrev pub texts : List (Bor (List ℕ)) → List (List ℕ)
texts ts = map (λ (b : Bor (List ℕ)). b.now) ts

pub table_read : (ts : List (Bor (List ℕ))) (k : ℕ) (d : Bor (List ℕ)) (v : List ℕ) → k < length ts → v ≡ (get_or ts k d).now → slice_get (texts ts) k ≡ Some v
table_read [] k d v h e = absurd (omega arith)
table_read (t ∷ ts) zero d v h e = cc
table_read (t ∷ ts) (suc k) d v h e = table_read ts k d v (omega arith) e

-- nothing stands past the end of a list
pub past_table : (ts : List (Bor (List ℕ))) (k : ℕ) (w : List ℕ) → slice_get (texts ts) k ≡ Some w → k < length ts
past_table [] k w e = cc
past_table (x ∷ ws) zero w e = omega arith
past_table (x ∷ ws) (suc k) w e = let h = past_table ws k w e in omega (arith, h)

-- ---- the rows of a first byte

-- each word of the table, counted from k, stands in the rows of its first byte
abbrev in_rows : ℕ → List (List ℕ) → Bool
in_rows k [] = true
in_rows k (w ∷ ws) = (nat_le (rows_of (slice_index w 0)).0 k && nat_lt k (rows_of (slice_index w 0)).1) && in_rows (k + 1) ws

words_in_rows : in_rows 0 words ≡ true
words_in_rows = refl

rows_at : (k n : ℕ) (ws : List (List ℕ)) (w : List ℕ) → in_rows k ws ≡ true → slice_get ws n ≡ Some w → ((rows_of (slice_index w 0)).0 ≤ k + n) × (k + n < (rows_of (slice_index w 0)).1)
rows_at k n [] w a e = cc
rows_at k zero (x ∷ xs) w a e =
    let h : x ≡ w = same_Some x w e in
    let both : (nat_le (rows_of (slice_index x 0)).0 k && nat_lt k (rows_of (slice_index x 0)).1) ≡ true = and_left _ (in_rows (k + 1) xs) a in
    let low : (rows_of (slice_index x 0)).0 ≤ k + 0 = (let l = leb-true _ _ (and_left (nat_le (rows_of (slice_index x 0)).0 k) _ both) in omega (arith, l)) in
    let high : k + 0 < (rows_of (slice_index x 0)).1 = (let l = ltb-true _ _ (and_right (nat_le (rows_of (slice_index x 0)).0 k) _ both) in omega (arith, l)) in
    subst (λ (v : List ℕ). ((rows_of (slice_index v 0)).0 ≤ k + 0) × (k + 0 < (rows_of (slice_index v 0)).1)) h (low, high)
rows_at k (suc n) (x ∷ xs) w a e =
    let r = rows_at (k + 1) n xs w (and_right (nat_le (rows_of (slice_index x 0)).0 k && nat_lt k (rows_of (slice_index x 0)).1) _ a) e in
    (let l = r.0 in omega (arith, l), let l = r.1 in omega (arith, l))

pub word_rows : (k : ℕ) (w : List ℕ) → slice_get words k ≡ Some w → ((rows_of (slice_index w 0)).0 ≤ k) × (k < (rows_of (slice_index w 0)).1)
word_rows k w e = let r = rows_at 0 k words w words_in_rows e in (let l = r.0 in omega (arith, l), let l = r.1 in omega (arith, l))

-- the rows of each byte stand in the table
choice_within : (c : Bool) (p q : ℕ × ℕ) (n : ℕ) → p.1 ≤ n → q.1 ≤ n → (cond c p q).1 ≤ n
choice_within true p q n f g = f
choice_within false p q n f g = g

abbrev all_within : ℕ → List (ℕ × ℕ × ℕ) → Bool
all_within n [] = true
all_within n (r ∷ rs) = nat_le r.2 n && all_within n rs

rows_in_within : (b n : ℕ) (rs : List (ℕ × ℕ × ℕ)) → all_within n rs ≡ true → (rows_in b rs).1 ≤ n
rows_in_within b n [] e = omega arith
rows_in_within b n (r ∷ rs) e = choice_within (b == r.0) (r.1, r.2) (rows_in b rs) n (leb-true r.2 n (and_left (nat_le r.2 n) (all_within n rs) e)) (rows_in_within b n rs (and_right (nat_le r.2 n) (all_within n rs) e))

pub rows_within : (b : ℕ) → (rows_of b).1 ≤ 113
rows_within b = rows_in_within b 113 rows refl
