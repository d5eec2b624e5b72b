-- The identifiers of a scenario are the names of the language.
use Rattle.std.proofs.Common.{◌≡◌, ℕ, Bool, ◌&&◌, ◌||◌, ◌==◌, List, [], ◌∷◌, refl, ap, ap₂, ◌∙◌, arith}
use Rattle.std.specs.Prelude.{nat_le}
use Rattle.std.specs.List.{list_all}
use Rattle.std.proofs.lemmas.Bool.Decides.{nat_tests}
use Rattle.fp_base.specs.Names as names
use Rattle.fp_base.proofs.Bools.{or_assoc}
use Rattle.fp_scenario.specs.Kinds as kinds

one_byte : (n : ℕ) → (nat_le 95 n && nat_le n 95) ≡ (n == 95)
one_byte n = grind (arith, nat_tests)

same_letter : (n : ℕ) → kinds.is_letter n ≡ names.is_letter n
same_letter n =
    or_assoc (nat_le 65 n && nat_le n 90) (nat_le 97 n && nat_le n 122) (nat_le 95 n && nat_le n 95)
    ∙ ap (λ b. (nat_le 65 n && nat_le n 90) || ((nat_le 97 n && nat_le n 122) || b)) (one_byte n)

same_byte : (n : ℕ) → kinds.is_letter_or_digit n ≡ names.is_name_byte n
same_byte n = ap (λ b. b || (nat_le 48 n && nat_le n 57)) (same_letter n)

same_bytes : (ns : List ℕ) → list_all kinds.is_letter_or_digit ns ≡ list_all names.is_name_byte ns
same_bytes [] = refl
same_bytes (n ∷ ns) = ap₂ (λ (a b : Bool). a && b) (same_byte n) (same_bytes ns)

pub identifier_is_name : (text : List ℕ) → kinds.is_identifier text ≡ names.is_name text
identifier_is_name [] = refl
identifier_is_name (n ∷ ns) = ap₂ (λ (a b : Bool). a && b) (same_letter n) (same_bytes ns)
