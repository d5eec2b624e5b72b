-- What files are gathered to: a source, or the rule that they break first.
use Rattle.std.specs.Prelude.{ℕ, ◌≡◌, ◌<◌, List, [], length, map, Contains, Some, Result, Ok, Err}
use Rattle.std.specs.List.{slice_index_or}
use Rattle.fp_base.specs.declared.refusal.Refusal.{Refusal}
use Rattle.fp_tree.specs.declared.member.Member.{Member}
use Rattle.fp_tree.specs.declared.member.Unit.{Unit as File}
use Rattle.fp_tree.specs.declared.source.Source.{Source}
use Rattle.fp_meaning.specs.Broken.{NamesBroken}
use Rattle.fp_base.specs.Least.{Either, IsLeast, IsUnbroken, Phased}
use Rattle.fp_gather.specs.FilesRun.{FilesRun, NoFault, NoMiss, HadFault, HadMiss}
use Rattle.fp_gather.specs.gathering.Reading.{Reading, BreaksTokenRule, BreaksGrammar}
use Rattle.fp_gather.specs.gathering.Walks.{Walked, Went, Stops, NoFile, ReadFault, nothing_read, WalksFiles}
use Rattle.fp_gather.specs.declared.gathering.Halt.{Halt}
use Rattle.fp_gather.specs.declared.gathering.Halt.TheVariants as halt

-- the names of the files that were read
abbrev pub names_read : Walked → List (List ℕ)
names_read walked = map (λ (r : Reading). r.name) walked.readings

abbrev pub file_of : List Member → File
file_of members = record { members = members }

-- all files that were read, and for each name asked for the members of its file
abbrev pub source_of : Walked → List (List Member) → Source
source_of walked units = record { names = names_read walked; units = map file_of units }

-- broken in one of the files
abbrev pub InFiles : (Reading → Refusal → Type 0) → Walked → Refusal → Type 0
InFiles P walked f = (r : Reading) × Contains walked.readings r × P r f

-- a rule before those of names is broken: of tokens, of the grammar or of includes
abbrev pub FilesBroken : Walked → Refusal → Type 0
FilesBroken walked = Either (InFiles BreaksTokenRule walked) (Either (InFiles BreaksGrammar walked) (Contains walked.refused))

-- or one of names
abbrev pub AnyBroken : Walked → Source → Refusal → Type 0
AnyBroken walked source = Either (FilesBroken walked) (NamesBroken source)

-- broken in the earliest phase in which something is: that of tokens, of the grammar, or of includes and names
abbrev pub FirstBroken : Walked → Source → Refusal → Type 0
FirstBroken walked source = Phased (InFiles BreaksTokenRule walked) (Phased (InFiles BreaksGrammar walked) (Either (Contains walked.refused) (NamesBroken source)))

-- the name of the file with a number
abbrev pub name_of : List (List ℕ) → ℕ → List ℕ
name_of names number = slice_index_or names number []

-- it stands in one of the files of these names
abbrev pub StandsAmong : List (List ℕ) → Refusal → Type 0
StandsAmong names f = f.place.file < length names

-- all files asked for were read, and give this source
pub record AreRead (names : List (List ℕ)) (files : FilesRun) (walked : Walked) (source : Source) : Type 0 where
  pub sound : NoFault files
  pub found : NoMiss files
  pub units : List (List Member)
  pub read : WalksFiles files.told names nothing_read (Went walked units)
  pub made : source ≡ source_of walked units

-- a file asked for isn't there, and it is the first
pub record IsAbsent (names : List (List ℕ)) (files : FilesRun) (absent : List ℕ) : Type 0 where
  pub sound : NoFault files
  pub missed : HadMiss files
  pub stopped : WalksFiles files.told names nothing_read (Stops (NoFile absent))

-- a file asked for could not be read
pub record IsUnread (names : List (List ℕ)) (files : FilesRun) (failed : List ℕ) : Type 0 where
  pub fault : HadFault files
  pub found : NoMiss files
  pub stopped : WalksFiles files.told names nothing_read (Stops (ReadFault failed))

-- all files asked for were read, a rule before those of names is broken, and this is the first, in the file of this name
pub record AreBroken (names : List (List ℕ)) (files : FilesRun) (refusal : Refusal) (file : List ℕ) : Type 0 where
  pub walked : Walked
  pub source : Source
  pub read : AreRead names files walked source
  pub some : (f : Refusal) × FilesBroken walked f
  pub first : IsLeast (FirstBroken walked source) (Some refusal)
  pub among : StandsAmong (names_read walked) refusal
  pub named : file ≡ name_of (names_read walked) refusal.place.file

-- what gathering the files of these names answers
abbrev pub Gathers : List (List ℕ) → FilesRun → Result Source Halt → Type 0
Gathers names files (Ok source) = (walked : Walked) × AreRead names files walked source × IsUnbroken (FilesBroken walked)
Gathers names files (Err (halt.Broken refusal file)) = AreBroken names files refusal file
Gathers names files (Err (halt.NoFile absent)) = IsAbsent names files absent
Gathers names files (Err (halt.ReadFault failed)) = IsUnread names files failed
Gathers names files (Err halt.NoMemory) = Unit {0}
