-- What files tell, and what is known of a call that reads them.
use Rattle.std.specs.Prelude.{ℕ, ◌≡◌, List, Option, IfSome}
use Rattle.fp_outside.specs.Counts.{Rose}
use Rattle.fp_outside.specs.Files.{bytes_of}
use Rattle.fp_outside.specs.declared.files.HeldFile.{HeldFile}

-- what files tell, and their counts before and after a call
pub record FilesRun : Type 0 where
  pub told : Option (List HeldFile)
  pub faults_before : ℕ
  pub faults_after : ℕ
  pub misses_before : ℕ
  pub misses_after : ℕ

abbrev pub files_run : {F : Type 0} → (F → Option (List HeldFile)) → (F → ℕ) → (F → ℕ) → F → F → FilesRun
files_run told faults misses old new =
    record { told = told old; faults_before = faults old; faults_after = faults new; misses_before = misses old; misses_after = misses new }

abbrev pub NoFault : FilesRun → Type 0
NoFault files = files.faults_after ≡ files.faults_before

abbrev pub NoMiss : FilesRun → Type 0
NoMiss files = files.misses_after ≡ files.misses_before

abbrev pub HadFault : FilesRun → Type 0
HadFault files = Rose files.faults_before files.faults_after

abbrev pub HadMiss : FilesRun → Type 0
HadMiss files = Rose files.misses_before files.misses_after

-- where files tell what they hold, it is this under the name
abbrev pub IsHeld : Option (List HeldFile) → List ℕ → Option (List ℕ) → Type 0
IsHeld told name bytes = IfSome told (λ held. bytes_of held name ≡ bytes)

abbrev pub Holds : FilesRun → List ℕ → Option (List ℕ) → Type 0
Holds files name bytes = IsHeld files.told name bytes
