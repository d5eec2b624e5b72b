-- A text is read in one way: its first element and what stands behind it are determined.
use Rattle.std.proofs.Common.{◌≡◌, ℕ, true, false, ◌==◌, List, [], ◌∷◌, ◌++◌, refl, sym, ◌∙◌, ap, append_assoc, arith}
use Rattle.std.proofs.lemmas.Bool.Decides.{nat_tests}
use Rattle.fp_base.specs.Formats.{is_brace}
use Rattle.fp_base.proofs.Bools.{not_both}
use Rattle.fp_formats.specs.Spelling.{has_no_brace, begins_with, IsLone}
use Rattle.fp_formats.proofs.Braces.{opens, opened_first, same_closing}
use Rattle.fp_formats.proofs.Readings.{field_no_lone}
use Rattle.fp_type_formats.specs.Elements.{Element, plain, escape, field, lone, element_text, IsElement}

-- the bytes of a field before what stands behind it
pub field_bytes : (w y : List ℕ) → element_text (field w) ++ y ≡ 123 ∷ (w ++ (125 ∷ y))
field_bytes w y = ap (λ (t : List ℕ). 123 ∷ t) (append_assoc w (125 ∷ []) y)

plain_no_field : (b : ℕ) (x w y : List ℕ) → is_brace b ≡ false → b ∷ x ≡ 123 ∷ (w ++ (125 ∷ y)) → ⊥
plain_no_field b x w y h e = let p : b ≡ 123 = cc in not_both (ap is_brace p ∙ opens) h

escape_no_field : (b : ℕ) (x w y : List ℕ) → has_no_brace w ≡ true → b ∷ b ∷ x ≡ 123 ∷ (w ++ (125 ∷ y)) → ⊥
escape_no_field b x w y h e =
    let p : b ≡ 123 = cc in
    let q : b ∷ x ≡ w ++ (125 ∷ y) = cc in
    let r : 123 ∷ x ≡ w ++ (125 ∷ y) = ap (λ (n : ℕ). n ∷ x) (sym p) ∙ q in
    opened_first [] x w y refl h r

escape_no_lone : (b : ℕ) (x : List ℕ) (c : ℕ) (y : List ℕ) → IsLone c y → b ∷ b ∷ x ≡ c ∷ y → ⊥
escape_no_lone b x c y l e =
    let p : b ≡ c = cc in
    let q : b ∷ x ≡ y = cc in
    let s : (b == c) ≡ false = ap (begins_with c) q ∙ l.not_doubled in
    let t : (b == c) ≡ true = grind (arith, nat_tests) in
    not_both t s

plain_no_lone : (b : ℕ) (x : List ℕ) (c : ℕ) (y : List ℕ) → is_brace b ≡ false → IsLone c y → b ∷ x ≡ c ∷ y → ⊥
plain_no_lone b x c y h l e = let p : b ≡ c = cc in not_both (ap is_brace p ∙ l.is_brace) h

plain_no_escape : (b : ℕ) (x : List ℕ) (c : ℕ) (y : List ℕ) → is_brace b ≡ false → is_brace c ≡ true → b ∷ x ≡ c ∷ y → ⊥
plain_no_escape b x c y h k e = let p : b ≡ c = cc in not_both (ap is_brace p ∙ k) h

pub same_head : (e f : Element) (x y : List ℕ) → IsElement e x → IsElement f y → element_text e ++ x ≡ element_text f ++ y → (e ≡ f) × (x ≡ y)
same_head (plain b) (plain c) x y h k is = let p : b ≡ c = cc in let q : x ≡ y = cc in (ap (λ (n : ℕ). plain n) p, q)
same_head (plain b) (escape c) x y h k is = absurd (plain_no_escape b x c (c ∷ y) h k is)
same_head (plain b) (field w) x y h k is = absurd (plain_no_field b x w y h (is ∙ field_bytes w y))
same_head (plain b) (lone c) x y h k is = absurd (plain_no_lone b x c y h k is)
same_head (escape b) (plain c) x y h k is = absurd (plain_no_escape c y b (b ∷ x) k h (sym is))
same_head (escape b) (escape c) x y h k is = let p : b ≡ c = cc in let q : x ≡ y = cc in (ap (λ (n : ℕ). escape n) p, q)
same_head (escape b) (field w) x y h k is = absurd (escape_no_field b x w y k (is ∙ field_bytes w y))
same_head (escape b) (lone c) x y h k is = absurd (escape_no_lone b x c y k is)
same_head (field w) (plain c) x y h k is = absurd (plain_no_field c y w x k (sym is ∙ field_bytes w x))
same_head (field w) (escape c) x y h k is = absurd (escape_no_field c y w x h (sym is ∙ field_bytes w x))
same_head (field v) (field w) x y h k is =
    let p : 123 ∷ (v ++ (125 ∷ x)) ≡ 123 ∷ (w ++ (125 ∷ y)) = sym (field_bytes v x) ∙ is ∙ field_bytes w y in
    let q : v ++ (125 ∷ x) ≡ w ++ (125 ∷ y) = cc in
    let r = same_closing v w x y h k q in
    (ap (λ (t : List ℕ). field t) r.0, r.1)
same_head (field w) (lone c) x y h k is = absurd (field_no_lone w x c y h k (sym (field_bytes w x) ∙ is))
same_head (lone b) (plain c) x y h k is = absurd (plain_no_lone c y b x k h (sym is))
same_head (lone b) (escape c) x y h k is = absurd (escape_no_lone c y b x h (sym is))
same_head (lone b) (field w) x y h k is = absurd (field_no_lone w y b x k h (sym (field_bytes w y) ∙ sym is))
same_head (lone b) (lone c) x y h k is = let p : b ≡ c = cc in let q : x ≡ y = cc in (ap (λ (n : ℕ). lone n) p, q)

pub never_empty : (e : Element) (x : List ℕ) → [] ≡ element_text e ++ x → ⊥
never_empty (plain b) x is = cc
never_empty (escape b) x is = cc
never_empty (field w) x is = cc
never_empty (lone b) x is = cc
