-- Each text has a reading.
use Rattle.std.proofs.Common.{◌≡◌, ℕ, zero, suc, ◌≤◌, ◌⊎◌, inl, inr, Bool, true, false, ◌==◌, List, [], ◌∷◌, ◌++◌, length, length-append, refl, sym, ◌∙◌, ap, arith}
use Rattle.std.proofs.lemmas.Bool.Decides.{nat_tests}
use Rattle.fp_base.specs.Formats.{is_brace}
use Rattle.fp_base.proofs.Numbers.{same_number}
use Rattle.fp_formats.specs.Spelling.{has_no_brace, begins_with, IsLone}
use Rattle.fp_formats.proofs.Braces.{no_brace-cons, no_brace-tail, no_closing, opened_first}
use Rattle.fp_type_formats.specs.Elements.{Element, plain, escape, field, lone, element_text, IsElement, IsReading}
use Rattle.fp_type_formats.proofs.Heads.{field_bytes}

pub other_number : (b c : ℕ) → (b == c) ≡ false → b ≡ c → ⊥
other_number b c h e = grind (arith, nat_tests)

no_brace_here : (b : ℕ) → (b == 123) ≡ false → (b == 125) ≡ false → is_brace b ≡ false
no_brace_here b h k = rw (h, k) refl

-- ---- a closing brace with no brace before it, or none

record IsClosed (xs : List ℕ) : Type 0 where
  inside : List ℕ
  after : List ℕ
  stands : xs ≡ inside ++ (125 ∷ after)
  clean : has_no_brace inside ≡ true

abbrev IsOpen : List ℕ → Type 0
IsOpen xs = (inside rest : List ℕ) → has_no_brace inside ≡ true → xs ≡ inside ++ (125 ∷ rest) → ⊥

open_at : (x : ℕ) (xs : List ℕ) → (x == 125) ≡ false → IsOpen xs → IsOpen (x ∷ xs)
open_at x xs differs none [] rest h e = let p : x ≡ 125 = cc in other_number x 125 differs p
open_at x xs differs none (c ∷ w) rest h e = let p : xs ≡ w ++ (125 ∷ rest) = cc in none w rest (no_brace-tail c w h) p

open_before : (x : ℕ) (xs : List ℕ) → x ≡ 123 → IsOpen (x ∷ xs)
open_before x xs is inside rest h e = opened_first [] xs inside rest refl h (ap (λ (n : ℕ). n ∷ xs) (sym is) ∙ e)

next_closed : (x : ℕ) (xs : List ℕ) → (a b : Bool) → (x == 125) ≡ a → (x == 123) ≡ b → IsClosed xs ⊎ IsOpen xs → IsClosed (x ∷ xs) ⊎ IsOpen (x ∷ xs)
next_closed x xs true b p q r = inl (record { inside = []; after = xs; stands = ap (λ (n : ℕ). n ∷ xs) (same_number x 125 p); clean = refl })
next_closed x xs false true p q r = inr (open_before x xs (same_number x 123 q))
next_closed x xs false false p q (inl c) =
    inl (record { inside = x ∷ c.inside; after = c.after; stands = ap (λ (t : List ℕ). x ∷ t) c.stands; clean = no_brace-cons x c.inside (no_brace_here x q p) c.clean })
next_closed x xs false false p q (inr none) = inr (open_at x xs p none)

closed_or_open : (xs : List ℕ) → IsClosed xs ⊎ IsOpen xs
closed_or_open [] = inr (λ inside rest h e. no_closing [] inside rest refl e)
closed_or_open (x ∷ xs) = next_closed x xs (x == 125) (x == 123) refl refl (closed_or_open xs)

-- ---- the first element

record HasFirst (b : ℕ) (rest : List ℕ) : Type 0 where
  element : Element
  after : List ℕ
  stands : b ∷ rest ≡ element_text element ++ after
  is : IsElement element after
  shorter : length after ≤ length rest

first_lone : (b : ℕ) (rest : List ℕ) → IsLone b rest → HasFirst b rest
first_lone b rest h = record { element = lone b; after = rest; stands = refl; is = h; shorter = omega arith }

first_field : (b : ℕ) (rest : List ℕ) → b ≡ 123 → IsClosed rest → HasFirst b rest
first_field b rest is c =
    let long : length rest ≡ length (c.inside ++ (125 ∷ c.after)) = ap length c.stands in
    let parts = length-append c.inside (125 ∷ c.after) in
    record {
      element = field c.inside;
      after = c.after;
      stands = ap (λ (n : ℕ). n ∷ rest) is ∙ ap (λ (t : List ℕ). 123 ∷ t) c.stands ∙ sym (field_bytes c.inside c.after);
      is = c.clean;
      shorter = omega (arith, long, parts);
    }

first_single : (b : ℕ) (rest : List ℕ) → is_brace b ≡ true → begins_with b rest ≡ false → (t : Bool) → (b == 123) ≡ t → IsClosed rest ⊎ IsOpen rest → HasFirst b rest
first_single b rest h k true e (inl c) = first_field b rest (same_number b 123 e) c
first_single b rest h k true e (inr none) = first_lone b rest (record { is_brace = h; not_doubled = k; no_field = λ is. none })
first_single b rest h k false e c = first_lone b rest (record { is_brace = h; not_doubled = k; no_field = λ is. absurd (other_number b 123 e is) })

first_brace : (b : ℕ) (rest : List ℕ) → is_brace b ≡ true → (t : Bool) → begins_with b rest ≡ t → HasFirst b rest
first_brace b [] h t k = first_single b [] h refl (b == 123) refl (closed_or_open [])
first_brace b (c ∷ rest) h true k =
    record { element = escape b; after = rest; stands = ap (λ (n : ℕ). b ∷ n ∷ rest) (same_number c b k); is = h; shorter = omega arith }
first_brace b (c ∷ rest) h false k = first_single b (c ∷ rest) h k (b == 123) refl (closed_or_open (c ∷ rest))

first_of : (b : ℕ) (rest : List ℕ) (t : Bool) → is_brace b ≡ t → HasFirst b rest
first_of b rest true h = first_brace b rest h (begins_with b rest) refl
first_of b rest false h = record { element = plain b; after = rest; stands = refl; is = h; shorter = omega arith }

read_within : (n : ℕ) (text : List ℕ) → length text ≤ n → (es : List Element) × IsReading es text
read_within n [] h = ([], refl)
read_within zero (b ∷ rest) h = absurd (omega (arith, h))
read_within (suc n) (b ∷ rest) h =
    let f = first_of b rest (is_brace b) refl in
    let low = f.shorter in
    let r = read_within n f.after (omega (arith, h, low)) in
    (f.element ∷ r.0, (f.after, f.stands, f.is, r.1))

pub reading_of : (text : List ℕ) → (es : List Element) × IsReading es text
reading_of text = read_within (length text) text (omega arith)
