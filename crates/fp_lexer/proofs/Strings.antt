-- Strings on one line: one at most at a place.
use Rattle.std.proofs.Common.{◌≡◌, ℕ, ◌+◌, List, [], ◌∷◌, ◌++◌, length, Some, None, Option, sym, ap, ◌∙◌, arith, suc, refl, cond, true, false, Bool, not, ◌||◌, ◌&&◌}
use Rattle.std.specs.Prelude.{◌==◌}
use Rattle.std.proofs.lemmas.Bool.{eqb-true}
use Rattle.fp_base.proofs.Bools.{neither, not_true, and_left, and_right}
use Rattle.fp_lexer.specs.Bytes.{is_body}
use Rattle.fp_lexer.specs.Scan.{string_len, one_more, past_bytes}
use Rattle.fp_lexer.proofs.Runs.{bool_cases, cond_true, cond_false}

pub some_more : (n : ℕ) → one_more (Some n) ≡ Some (suc n)
some_more n = ap (λ (k : ℕ). Some k) (omega arith)

-- a body and a quote are read
pub string_complete : (escaped : Bool) (raw more : List ℕ) → is_body escaped raw ≡ true → string_len escaped (raw ++ 34 ∷ more) ≡ Some (length raw)
string_complete true [] more h = cc
string_complete false [] more h = refl
string_complete true (b ∷ bs) more h =
    let n = not_true (b == 10) (and_left (not (b == 10)) (is_body false bs) h) in
    let r = string_complete false bs more (and_right (not (b == 10)) (is_body false bs) h) in
    cond_false (b == 10) None (one_more (string_len false (bs ++ 34 ∷ more))) n ∙ ap one_more r ∙ some_more (length bs)
string_complete false (b ∷ bs) more h = bool_cases (b == 92) _
    (λ e.
    let x = eqb-true b 92 e in
    let q : (b == 34) ≡ false = ap (λ (c : ℕ). c == 34) x in
    let n : (b == 10) ≡ false = ap (λ (c : ℕ). c == 10) x in
    let i : is_body true bs ≡ true = sym (cond_true (b == 92) (is_body true bs) (not (b == 34 || b == 10) && is_body false bs) e) ∙ h in
    let rest = one_more (string_len (b == 92) (bs ++ 34 ∷ more)) in
    cond_false (b == 34) (Some 0) (cond (b == 10) None rest) q ∙ cond_false (b == 10) None rest n
    ∙ ap (λ (v : Bool). one_more (string_len v (bs ++ 34 ∷ more))) e ∙ ap one_more (string_complete true bs more i) ∙ some_more (length bs))
    (λ e.
    let i : (not (b == 34 || b == 10) && is_body false bs) ≡ true = sym (cond_false (b == 92) (is_body true bs) (not (b == 34 || b == 10) && is_body false bs) e) ∙ h in
    let o = not_true (b == 34 || b == 10) (and_left (not (b == 34 || b == 10)) (is_body false bs) i) in
    let rest = one_more (string_len (b == 92) (bs ++ 34 ∷ more)) in
    cond_false (b == 34) (Some 0) (cond (b == 10) None rest) (neither (b == 34) (b == 10) o).0 ∙ cond_false (b == 10) None rest (neither (b == 34) (b == 10) o).1
    ∙ ap (λ (v : Bool). one_more (string_len v (bs ++ 34 ∷ more))) e ∙ ap one_more (string_complete false bs more (and_right (not (b == 34 || b == 10)) (is_body false bs) i)) ∙ some_more (length bs))

-- what was read is a body and a quote
pub record ReadBody (escaped : Bool) (t : List ℕ) (n : ℕ) : Type 0 where
  pub raw : List ℕ
  pub more : List ℕ
  pub splits : t ≡ raw ++ 34 ∷ more
  pub body : is_body escaped raw ≡ true
  pub size : n ≡ length raw

pub one_more_some : (o : Option ℕ) (n : ℕ) (P : Type 0) → one_more o ≡ Some n → ((m : ℕ) → o ≡ Some m → n ≡ m + 1 → P) → P
one_more_some None n P e k = cc
one_more_some (Some m) n P e k = k m refl (cc)

pub string_sound : (escaped : Bool) (t : List ℕ) (n : ℕ) → string_len escaped t ≡ Some n → ReadBody escaped t n
string_sound true [] n e = cc
string_sound false [] n e = cc
string_sound true (b ∷ bs) n e = bool_cases (b == 10) _
    (λ h. let x = sym (cond_true (b == 10) None (one_more (string_len false bs)) h) ∙ e in cc)
    (λ h. one_more_some (string_len false bs) n _ (sym (cond_false (b == 10) None (one_more (string_len false bs)) h) ∙ e) (λ m f j.
    let r = string_sound false bs m f in
    let size = r.size in record {
      raw = b ∷ r.raw;
      more = r.more;
      splits = ap (λ (x : List ℕ). b ∷ x) r.splits;
      body = ap (λ (v : Bool). not v && is_body false r.raw) h ∙ r.body;
      size = omega (arith, size, j);
    }))
string_sound false (b ∷ bs) n e =
    let rest = one_more (string_len (b == 92) bs) in
    bool_cases (b == 34) _
    (λ h. let x : Some 0 ≡ Some n = sym (cond_true (b == 34) (Some 0) (cond (b == 10) None rest) h) ∙ e in
    record { raw = []; more = bs; splits = ap (λ (c : ℕ). c ∷ bs) (eqb-true b 34 h); body = refl; size = cc })
    (λ q. bool_cases (b == 10) _
    (λ h. let x = sym (cond_false (b == 34) (Some 0) (cond (b == 10) None rest) q ∙ cond_true (b == 10) None rest h) ∙ e in cc)
    (λ h.
    let x : rest ≡ Some n = sym (cond_false (b == 34) (Some 0) (cond (b == 10) None rest) q ∙ cond_false (b == 10) None rest h) ∙ e in
    one_more_some (string_len (b == 92) bs) n _ x (λ m f j.
    let r = string_sound (b == 92) bs m f in
    let size = r.size in
    record {
      raw = b ∷ r.raw;
      more = r.more;
      splits = ap (λ (y : List ℕ). b ∷ y) r.splits;
      body = bool_cases (b == 92) _
          (λ k. cond_true (b == 92) (is_body true r.raw) (not (b == 34 || b == 10) && is_body false r.raw) k ∙ sym (ap (λ (v : Bool). is_body v r.raw) k) ∙ r.body)
          (λ k. cond_false (b == 92) (is_body true r.raw) (not (b == 34 || b == 10) && is_body false r.raw) k
          ∙ ap (λ (v : Bool). not (v || b == 10) && is_body false r.raw) q ∙ ap (λ (v : Bool). not v && is_body false r.raw) h ∙ sym (ap (λ (v : Bool). is_body v r.raw) k) ∙ r.body);
      size = omega (arith, size, j);
    })))

-- one byte of the loop
pub past_more : (n : ℕ) (o : Option ℕ) → past_bytes n (one_more o) ≡ past_bytes (n + 1) o
past_more n None = refl
past_more n (Some m) = ap (λ (k : ℕ). Some k) (omega arith)
