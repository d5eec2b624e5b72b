-- The library's test of two texts, and the bytes of a name.
use Rattle.std.proofs.Common.{◌≡◌, ℕ, true, List, [], ◌∷◌, refl, sym, bytes_eq, Bool, false}
use Rattle.std.specs.List.{list_all}
use Rattle.std.proofs.lemmas.Slice.Eq.{bytes_eq-Decides}
use Rattle.fp_base.specs.Names.{is_digit, is_letter, is_name, is_name_byte}
use Rattle.fp_base.proofs.Bools.{both, join, or_left, same_truth}

pub same_bytes : (s t : List ℕ) → bytes_eq s t ≡ true → s ≡ t
same_bytes s t e = (bytes_eq-Decides s t).0 e

pub bytes_same : (s t : List ℕ) → s ≡ t → bytes_eq s t ≡ true
bytes_same s t e = (bytes_eq-Decides s t).1 e

pub bytes_itself : (s : List ℕ) → bytes_eq s s ≡ true
bytes_itself s = bytes_same s s refl

pub bytes_turned : (s t : List ℕ) → bytes_eq s t ≡ bytes_eq t s
bytes_turned s t = same_truth (bytes_eq s t) (bytes_eq t s) (λ e. bytes_same t s (sym (same_bytes s t e))) (λ e. bytes_same s t (sym (same_bytes t s e)))

-- the bytes of a name are such bytes
pub name_bytes : (n : List ℕ) → is_name n ≡ true → list_all is_name_byte n ≡ true
name_bytes [] h = refl
name_bytes (b ∷ bs) h = let t = both (is_letter b) (list_all is_name_byte bs) h in join (is_name_byte b) (list_all is_name_byte bs) (or_left (is_letter b) (is_digit b) t.0) t.1

pub differ_bytes : (s t : List ℕ) → (s ≡ t → ⊥) → bytes_eq s t ≡ false
differ_bytes s t differ = go (bytes_eq s t) refl
  where
    go : (b : Bool) → bytes_eq s t ≡ b → bytes_eq s t ≡ false
    go false e = e
    go true e = absurd (differ (same_bytes s t e))
