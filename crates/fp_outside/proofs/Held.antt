-- One more file.
use Rattle.std.proofs.Common.{◌≡◌, ◌+◌, ◌<◌, ℕ, List, [], ◌∷◌, ◌++◌, Option, Some, None, true, false, take, length, get_or, refl, ap, sym, ◌∙◌}
use Rattle.std.proofs.lemmas.List.{take_more}
use Rattle.std.specs.Str.{bytes_eq}
use Rattle.fp_outside.specs.Files.{bytes_of, some_or, bytes_if}
use Rattle.fp_outside.specs.declared.files.HeldFile.{HeldFile}

some_or_assoc : (a b c : Option (List ℕ)) → some_or (some_or a b) c ≡ some_or a (some_or b c)
some_or_assoc None b c = refl
some_or_assoc (Some x) b c = refl

some_or_none : (a : Option (List ℕ)) → some_or a None ≡ a
some_or_none None = refl
some_or_none (Some x) = refl

-- the last file counts
pub bytes_of-append : (files : List HeldFile) (file : HeldFile) (name : List ℕ)
    → bytes_of (files ++ file ∷ []) name ≡ some_or (bytes_if (bytes_eq file.name name) file.bytes) (bytes_of files name)
bytes_of-append [] file name = sym (some_or_none (bytes_if (bytes_eq file.name name) file.bytes))
bytes_of-append (f ∷ fs) file name =
    ap (λ o. some_or o (bytes_if (bytes_eq f.name name) f.bytes)) (bytes_of-append fs file name)
    ∙ some_or_assoc (bytes_if (bytes_eq file.name name) file.bytes) (bytes_of fs name) (bytes_if (bytes_eq f.name name) f.bytes)

after : (files : List HeldFile) (i : ℕ) (file : HeldFile) (name : List ℕ) → i < length files → file ≡ get_or files i file
    → bytes_of (take (i + 1) files) name ≡ some_or (bytes_if (bytes_eq file.name name) file.bytes) (bytes_of (take i files) name)
after files i file name within is =
    ap (λ fs. bytes_of fs name) (take_more files i file within ∙ ap (λ f. take i files ++ f ∷ []) (sym is)) ∙ bytes_of-append (take i files) file name

-- past a file of this name
pub after_same : (files : List HeldFile) (i : ℕ) (file : HeldFile) (name : List ℕ) → i < length files → file ≡ get_or files i file → bytes_eq file.name name ≡ true
    → bytes_of (take (i + 1) files) name ≡ Some file.bytes
after_same files i file name within is same =
    after files i file name within is ∙ ap (λ b. some_or (bytes_if b file.bytes) (bytes_of (take i files) name)) same

-- past a file of another name
pub after_other : (files : List HeldFile) (i : ℕ) (file : HeldFile) (name : List ℕ) → i < length files → file ≡ get_or files i file → bytes_eq file.name name ≡ false
    → bytes_of (take (i + 1) files) name ≡ bytes_of (take i files) name
after_other files i file name within is other =
    after files i file name within is ∙ ap (λ b. some_or (bytes_if b file.bytes) (bytes_of (take i files) name)) other
