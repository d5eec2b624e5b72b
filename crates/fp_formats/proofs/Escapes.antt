-- A text in quotes is UTF-8.
use Rattle.std.proofs.Common.{◌≡◌, ℕ, zero, suc, ◌+◌, ◌/◌, ◌%◌, ◌<◌, ◌≤◌, Bool, true, false, cond, ◌||◌, ◌==◌, List, [], ◌∷◌, ◌++◌, refl, ◌∙◌, ap, subst, append-nil, arith}
use Rattle.std.specs.Prelude.{flat_map, nat_lt, slice_index}
use Rattle.std.specs.Fmt.{digit_glyph}
use Rattle.std.specs.Str.{IsUtf8, all_scalars, encode_utf8_all}
use Rattle.std.proofs.lemmas.Bool.Decides.{nat_tests}
use Rattle.std.proofs.lemmas.Grind.{flat_map-append}
use Rattle.std.proofs.lemmas.Str.{IsUtf8-append, IsUtf8-from_ascii, IsUtf8-nil, encode_ascii}
use lib.Utf8.{encode, scalar}
use lib.Dec.{ltb}
use Rattle.fp_base.specs.Rendered.{escaped, quoted}
use Rattle.fp_base.proofs.Bools.{both}

low_text : (c : ℕ) → c < 128 → (i : ℕ) → slice_index (c ∷ []) i < 128
low_text c h zero = h
low_text c h (suc i) = omega arith

low_cons : (c : ℕ) (w : List ℕ) → c < 128 → IsUtf8 w → IsUtf8 (c ∷ w)
low_cons c w h u = IsUtf8-append (c ∷ []) w (IsUtf8-from_ascii (c ∷ []) (low_text c h)) u

low_glyph : (d : ℕ) → d < 16 → digit_glyph false d < 128
low_glyph d h = by (nat_lt d 10)
  where
    by : (t : Bool) → cond t (48 + d) (87 + d) < 128
    by true = omega arith
    by false = omega arith

escaped_low : (b : ℕ) → b < 128 → IsUtf8 (escaped b)
escaped_low b h = by (b == 34 || b == 92) (nat_lt b 32 || b == 127)
  where
    by : (s t : Bool) → IsUtf8 (cond s (92 ∷ b ∷ []) (cond t (92 ∷ 120 ∷ digit_glyph false (b / 16) ∷ digit_glyph false (b % 16) ∷ []) (b ∷ [])))
    by true t = low_cons 92 (b ∷ []) (omega arith) (low_cons b [] h IsUtf8-nil)
    by false true =
        low_cons 92 (120 ∷ digit_glyph false (b / 16) ∷ digit_glyph false (b % 16) ∷ []) (omega arith)
        (low_cons 120 (digit_glyph false (b / 16) ∷ digit_glyph false (b % 16) ∷ []) (omega arith)
        (low_cons (digit_glyph false (b / 16)) (digit_glyph false (b % 16) ∷ []) (low_glyph (b / 16) (omega arith))
        (low_cons (digit_glyph false (b % 16)) [] (low_glyph (b % 16) (omega arith)) IsUtf8-nil)))
    by false false = low_cons b [] h IsUtf8-nil

escaped_high : (b : ℕ) → 128 ≤ b → escaped b ≡ b ∷ []
escaped_high b h =
    let p : (b == 34) ≡ false = grind (arith, nat_tests) in
    let q : (b == 92) ≡ false = grind (arith, nat_tests) in
    let r : nat_lt b 32 ≡ false = grind (arith, nat_tests) in
    let s : (b == 127) ≡ false = grind (arith, nat_tests) in
    rw (p, q, r, s) refl

two : (a b : ℕ) → 128 ≤ a → 128 ≤ b → flat_map escaped (a ∷ b ∷ []) ≡ a ∷ b ∷ []
two a b h k = ap (λ t. t ++ flat_map escaped (b ∷ [])) (escaped_high a h) ∙ ap (λ t. a ∷ (t ++ [])) (escaped_high b k)

three : (a b c : ℕ) → 128 ≤ a → 128 ≤ b → 128 ≤ c → flat_map escaped (a ∷ b ∷ c ∷ []) ≡ a ∷ b ∷ c ∷ []
three a b c h k l = ap (λ t. t ++ flat_map escaped (b ∷ c ∷ [])) (escaped_high a h) ∙ ap (λ t. a ∷ t) (two b c k l)

four : (a b c d : ℕ) → 128 ≤ a → 128 ≤ b → 128 ≤ c → 128 ≤ d → flat_map escaped (a ∷ b ∷ c ∷ d ∷ []) ≡ a ∷ b ∷ c ∷ d ∷ []
four a b c d h k l m = ap (λ t. t ++ flat_map escaped (b ∷ c ∷ d ∷ [])) (escaped_high a h) ∙ ap (λ t. a ∷ t) (three b c d k l m)

escaped_wide : (c : ℕ) → ltb c 128 ≡ false → flat_map escaped (encode c) ≡ encode c
unfolding encode
escaped_wide c e = rw e (by (ltb c 2048) (ltb c 65536))
  where
    by : (s t : Bool) → flat_map escaped (cond s ((192 + c / 64) ∷ (128 + c % 64) ∷ []) (cond t ((224 + c / 4096) ∷ (128 + c / 64 % 64) ∷ (128 + c % 64) ∷ []) ((240 + c / 262144) ∷ (128 + c / 4096 % 64) ∷ (128 + c / 64 % 64) ∷ (128 + c % 64) ∷ [])))
        ≡ cond s ((192 + c / 64) ∷ (128 + c % 64) ∷ []) (cond t ((224 + c / 4096) ∷ (128 + c / 64 % 64) ∷ (128 + c % 64) ∷ []) ((240 + c / 262144) ∷ (128 + c / 4096 % 64) ∷ (128 + c / 64 % 64) ∷ (128 + c % 64) ∷ []))
    by true t = two (192 + c / 64) (128 + c % 64) (omega arith) (omega arith)
    by false true = three (224 + c / 4096) (128 + c / 64 % 64) (128 + c % 64) (omega arith) (omega arith) (omega arith)
    by false false = four (240 + c / 262144) (128 + c / 4096 % 64) (128 + c / 64 % 64) (128 + c % 64) (omega arith) (omega arith) (omega arith) (omega arith)

escaped_char : (c : ℕ) → scalar c ≡ true → IsUtf8 (flat_map escaped (encode c))
escaped_char c s = by (ltb c 128) refl
  where
    by : (t : Bool) → ltb c 128 ≡ t → IsUtf8 (flat_map escaped (encode c))
    by true e =
        let h : c < 128 = grind (arith, nat_tests, e) in
        let p = encode_ascii c h in
        rw (p, append-nil (escaped c)) (escaped_low c h)
    by false e =
        let p = escaped_wide c e in
        let q : IsUtf8 (encode c) = (c ∷ [], (rw s refl, append-nil (encode c))) in
        rw p q

escaped_chars : (cs : List ℕ) → all_scalars cs ≡ true → IsUtf8 (flat_map escaped (encode_utf8_all cs))
escaped_chars [] h = IsUtf8-nil
escaped_chars (c ∷ cs) h =
    let k = both (scalar c) (all_scalars cs) h in
    let e = flat_map-append escaped (encode c) (encode_utf8_all cs) in
    rw e (IsUtf8-append (flat_map escaped (encode c)) (flat_map escaped (encode_utf8_all cs)) (escaped_char c k.0) (escaped_chars cs k.1))

pub quoted_utf8 : (s : List ℕ) → IsUtf8 s → IsUtf8 (quoted s)
quoted_utf8 s u =
    let inner : IsUtf8 (flat_map escaped s) = subst (λ t. IsUtf8 (flat_map escaped t)) u.1.1 (escaped_chars u.0 u.1.0) in
    IsUtf8-append (34 ∷ flat_map escaped s) (34 ∷ []) (low_cons 34 (flat_map escaped s) (omega arith) inner) (low_cons 34 [] (omega arith) IsUtf8-nil)
