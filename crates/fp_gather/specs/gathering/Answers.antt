-- What the parts of gathering answer.
use Rattle.std.specs.Prelude.{ℕ, ◌≡◌, ◌+◌, ◌-◌, ◌<◌, nat_le, cond, List, count_by, Contains, Option, Some, None, MatchOption, Result, Ok, Err}
use Rattle.fp_outside.specs.declared.files.HeldFile.{HeldFile}
use Rattle.fp_base.specs.declared.refusal.Refusal.{Refusal}
use Rattle.fp_base.specs.Least.{Either, IsLeast, IsUnbroken}
use Rattle.fp_meaning.specs.Broken.{NamesBroken}
use Rattle.fp_tree.specs.declared.source.Source.{Source}
use Rattle.fp_gather.specs.FilesRun.{FilesRun, NoFault, NoMiss, HadFault, HadMiss}
use Rattle.fp_gather.specs.gathering.Reading.{Reading, BreaksTokenRule, BreaksGrammar, Gives, most_bytes}
use Rattle.fp_gather.specs.gathering.Walks.{Walked, Walk, Went, Stops, NoFile, ReadFault, bytes_of, is_included}
use Rattle.fp_gather.specs.gathering.Gathered.{FilesBroken, FirstBroken, InFiles, name_of, names_read}
use Rattle.fp_gather.specs.declared.gathering.Halt.{Halt}
use Rattle.fp_gather.specs.declared.gathering.Halt.TheVariants as halt
use Rattle.fp_gather.specs.declared.gathering.concluding.Concluded.{Concluded}
use Rattle.fp_gather.specs.declared.gathering.progress.Progress.{Progress}
use Rattle.fp_gather.specs.declared.gathering.reading.FileFound.{FileFound}

-- what was found in a file
pub record IsFound (r : Reading) (found : FileFound) : Type 0 where
  pub tokens : IsLeast (BreaksTokenRule r) found.tokens
  pub grammar : IsLeast (BreaksGrammar r) found.grammar
  pub gives : Gives r found.given

-- what is left of room for bytes behind so many; none once they are more
abbrev pub room_left : Option ℕ → ℕ → Option ℕ
room_left None count = None
room_left (Some left) count = cond (nat_le count left) (Some (left - count)) None

-- what is kept of the files that were read
pub record Knows (progress : Progress) (walked : Walked) : Type 0 where
  pub names : progress.names ≡ names_read walked
  pub room : MatchOption progress.room (most_bytes < bytes_of walked.readings) (λ left. bytes_of walked.readings + left ≡ most_bytes)
  pub inclusions : progress.inclusions ≡ count_by is_included walked.readings
  pub tokens : IsLeast (InFiles BreaksTokenRule walked) progress.tokens
  pub grammar : IsLeast (InFiles BreaksGrammar walked) progress.grammar
  pub includes : IsLeast (Contains walked.refused) progress.includes

-- how a walk ends
abbrev pub Comes : {A : Type 0} → FilesRun → (Option (List HeldFile) → Walk A) → Walked → Progress → Result A Halt → Type 0
Comes files walk before progress (Ok gives) =
    NoFault files × NoMiss files × ((after : Walked) × walk files.told before (Went after gives) × Knows progress after)
Comes files walk before progress (Err (halt.Broken refusal file)) = ⊥
Comes files walk before progress (Err (halt.NoFile name)) = NoFault files × HadMiss files × walk files.told before (Stops (NoFile name))
Comes files walk before progress (Err (halt.ReadFault name)) = HadFault files × NoMiss files × walk files.told before (Stops (ReadFault name))
Comes files walk before progress (Err halt.NoMemory) = Unit {0}

-- the least of what the files break, by the phases that need no names, with their names
pub record AreJudged (walked : Walked) (concluded : Concluded) : Type 0 where
  pub names : concluded.source.names ≡ names_read walked
  pub tokens : IsLeast (InFiles BreaksTokenRule walked) concluded.tokens
  pub grammar : IsLeast (InFiles BreaksGrammar walked) concluded.grammar
  pub includes : IsLeast (Contains walked.refused) concluded.includes

-- the first rule of includes and names, where an include breaks its own
abbrev pub IncludesFirst : Walked → Source → Option Refusal → Type 0
IncludesFirst walked source None = IsUnbroken (Contains walked.refused)
IncludesFirst walked source (Some f) = IsLeast (Either (Contains walked.refused) (NamesBroken source)) (Some f) × ((g : Refusal) × Contains walked.refused g)

-- the first rule that is broken, where one before those of names is
abbrev pub IsFirst : Walked → Source → Option Refusal → Type 0
IsFirst walked source None = IsUnbroken (FilesBroken walked)
IsFirst walked source (Some f) = IsLeast (FirstBroken walked source) (Some f) × ((g : Refusal) × FilesBroken walked g)

-- the source where there is none, and that rule with the name of its file where there is one
abbrev pub Judges : Walked → Source → Result Source Halt → Type 0
Judges walked source (Ok given) = (given ≡ source) × IsFirst walked source None
Judges walked source (Err (halt.Broken refusal file)) = IsFirst walked source (Some refusal) × (file ≡ name_of source.names refusal.place.file)
Judges walked source (Err (halt.NoFile name)) = ⊥
Judges walked source (Err (halt.ReadFault name)) = ⊥
Judges walked source (Err halt.NoMemory) = Unit {0}
