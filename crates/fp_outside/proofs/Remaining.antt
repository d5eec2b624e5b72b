-- What a reader that gives no more than the limit and one byte has left.
use Rattle.std.proofs.Common.{◌≡◌, ℕ, ◌+◌, ◌≤◌, List, [], ◌++◌, length, take, Option, None, Some, Result, Ok, Err, IfOk, IfSome, ap, subst, ◌∙◌, arith, length-take}
use Rattle.std.proofs.lemmas.List.{take_all}
use Rattle.std.specs.Option.{option_map}
use Rattle.fp_outside.specs.Files.{IsLeft, most_bytes}
use Rattle.fp_outside.specs.declared.files.HeldFile.{HeldFile}
use Rattle.fp_outside.specs.declared.files.ReadRefusal.{ReadRefusal}

short_whole : (rest row : List ℕ) → row ≡ take (most_bytes + 1) rest → length row ≤ most_bytes → row ≡ rest
short_whole rest row e short =
    let cut = ap length e ∙ length-take (most_bytes + 1) rest in
    e ∙ take_all (most_bytes + 1) rest (omega (arith, cut, short))

whole_of : (remaining : Option (List ℕ)) (row : List ℕ) → IfSome (option_map (take (most_bytes + 1)) remaining) (λ xs. row ≡ xs) → length row ≤ most_bytes → IsLeft remaining row
whole_of None row h short = (tt, short)
whole_of (Some rest) row h short = (short_whole rest row h short, short)

same_of : (o : Option (List ℕ)) (read old row : List ℕ) → old ≡ [] → IfSome o (λ xs. read ≡ old ++ xs) → row ≡ read → IfSome o (λ xs. row ≡ xs)
same_of None read old row none h e = tt
same_of (Some xs) read old row none h e = e ∙ h ∙ ap (λ (l : List ℕ). l ++ xs) none

pub left_whole : {S : Type 0} (remaining : S → Option (List ℕ)) (reader inner : S) (limit : ℕ) (read old row : List ℕ)
    → limit ≡ most_bytes + 1 → inner ≡ reader → old ≡ [] → IfSome (option_map (take limit) (remaining inner)) (λ xs. read ≡ old ++ xs)
    → (row ≡ read) × (length row ≤ most_bytes) → IsLeft (remaining reader) row
left_whole {S = S} remaining reader inner limit read old row el ei none h r =
    subst (λ (s : S). IsLeft (remaining s) row) ei
    (whole_of (remaining inner) row
    (subst (λ (n : ℕ). IfSome (option_map (take n) (remaining inner)) (λ xs. row ≡ xs)) el (same_of (option_map (take limit) (remaining inner)) read old row none h r.0)) r.1)

-- files that tell nothing say nothing of what is read
pub nothing_told : (r : Result (Option (List ℕ)) ReadRefusal) (P : Option (List ℕ) → List HeldFile → Type 0) → IfOk r (λ read. IfSome None (P read))
nothing_told (Ok read) P = tt
nothing_told (Err refusal) P = tt
