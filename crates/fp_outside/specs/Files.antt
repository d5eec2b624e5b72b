-- What files hold, and what a read says of the counts.
use Rattle.std.specs.Prelude.{ℕ, ◌≡◌, ◌≤◌, List, [], ◌∷◌, length, Option, Some, None, IfSome, Result, Ok, Err, Bool, cond}
use Rattle.std.specs.Str.{bytes_eq}
use Rattle.fp_outside.specs.Counts.{Rose}
use Rattle.fp_outside.specs.declared.files.HeldFile.{HeldFile}
use Rattle.fp_outside.specs.declared.files.ReadRefusal.{ReadRefusal}
use Rattle.fp_outside.specs.declared.files.ReadRefusal.TheVariants.{Failed, NoMemory}

abbrev pub some_or : Option (List ℕ) → Option (List ℕ) → Option (List ℕ)
some_or (Some bytes) other = Some bytes
some_or None other = other

abbrev pub bytes_if : Bool → List ℕ → Option (List ℕ)
bytes_if same bytes = cond same (Some bytes) None

-- the bytes of the last file of a name
abbrev pub bytes_of : List HeldFile → List ℕ → Option (List ℕ)
bytes_of [] name = None
bytes_of (file ∷ files) name = some_or (bytes_of files name) (bytes_if (bytes_eq file.name name) file.bytes)

-- the count of faults rises with an answer that the read failed, and else stays
abbrev pub CountsFault : Result (Option (List ℕ)) ReadRefusal → ℕ → ℕ → Type 0
CountsFault (Ok read) before now = now ≡ before
CountsFault (Err Failed) before now = Rose before now
CountsFault (Err NoMemory) before now = now ≡ before

-- the count of misses rises with an answer that there is no such file, and else stays
abbrev pub CountsMiss : Result (Option (List ℕ)) ReadRefusal → ℕ → ℕ → Type 0
CountsMiss (Ok None) before now = Rose before now
CountsMiss (Ok (Some bytes)) before now = now ≡ before
CountsMiss (Err refusal) before now = now ≡ before

-- the most bytes that are read of a real file, 64 MiB
abbrev pub most_bytes : ℕ
most_bytes = 67108864

-- all bytes that a reader has left, where it tells them, and no more than may be read
abbrev pub IsLeft : Option (List ℕ) → List ℕ → Type 0
IsLeft remaining bytes = IfSome remaining (λ rest. bytes ≡ rest) × (length bytes ≤ most_bytes)
