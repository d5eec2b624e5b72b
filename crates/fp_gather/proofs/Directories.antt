-- The directory part of a name, by its last `/`.
use Rattle.std.proofs.Common.{◌≡◌, ◌≢◌, ℕ, ◌+◌, ◌-◌, ◌<◌, ◌≤◌, List, [], ◌∷◌, ◌++◌, Bool, true, false, length, take, get_or, refl, sym, ap, ◌∙◌, arith}
use Rattle.std.specs.Prelude.{not, ◌==◌}
use Rattle.std.specs.List.{suffix_len}
use Rattle.std.proofs.lemmas.List.{take_more}
use Rattle.std.proofs.lemmas.List.Sums.{suffix_len_is}
use Rattle.std.proofs.lemmas.Bool.Decides.{nat_tests}
use Rattle.fp_gather.specs.gathering.Includes.{directory}

abbrev other : ℕ → Bool
other b = not (b == 47)

other_yes : (b : ℕ) → (b ≡ 47 → ⊥) → other b ≡ true
other_yes b ne = go (b == 47) refl
  where
    go : (t : Bool) → (b == 47) ≡ t → not t ≡ true
    go true e = let same : b ≡ 47 = grind (arith, nat_tests) in absurd (ne same)
    go false e = refl

other_no : (b : ℕ) → b ≡ 47 → other b ≡ false
other_no b e = ap other e

cut_at : (name : List ℕ) (n : ℕ) → n ≤ length name → suffix_len other name ≡ length name - n → directory name ≡ take n name
cut_at name n within e = ap (λ (k : ℕ). take (length name - k) name) e ∙ ap (λ (k : ℕ). take k name) (omega (arith, within))

pub no_directory : (name text : List ℕ) → text ≡ [] → ((i : ℕ) → i < length name → get_or name i 0 ≢ 47) → text ≡ directory name
no_directory name text e none =
    e ∙ sym (cut_at name 0 (omega arith) (suffix_len_is other name 0 0 (omega arith) (λ k h lt. other_yes (get_or name k 0) (none k lt)) (λ h. absurd (omega (arith, h)))))

pub directory_before : (name : List ℕ) (at : ℕ) (front text : List ℕ) → front ≡ take at name → text ≡ front ++ 47 ∷ []
    → (at < length name) × (get_or name at 0 ≡ 47) × ((i : ℕ) → at < i → i < length name → get_or name i 0 ≢ 47) → text ≡ directory name
directory_before name at front text ef et (lt, here, none) =
    let before : at + 1 - 1 ≡ at = omega arith in
    et ∙ ap (λ (l : List ℕ). l ++ 47 ∷ []) ef ∙ ap (λ (b : ℕ). take at name ++ b ∷ []) (sym here) ∙ sym (take_more name at 0 lt)
    ∙ sym (cut_at name (at + 1) (omega (arith, lt))
    (suffix_len_is other name (at + 1) 0 (omega (arith, lt)) (λ k h less. other_yes (get_or name k 0) (none k (omega (arith, h)) less))
    (λ h. other_no (get_or name (at + 1 - 1) 0) (ap (λ (n : ℕ). get_or name n 0) before ∙ here))))
