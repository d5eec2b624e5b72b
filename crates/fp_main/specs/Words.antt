-- The forms of words that the program takes.
use Rattle.std.specs.Prelude.{ℕ, ◌≡◌, ◌+◌, ◌-◌, ◌<◌, ◌≤◌, ◌⊎◌, List, [], ◌∷◌, ◌++◌, length, map, take, codes, decimal, Result, Ok, Err}
use Rattle.std.specs.String.{string_bytes}
use Rattle.fp_scenario_run.specs.declared.scenario.RunText.{RunText}
use Rattle.fp_scenario_run.specs.declared.scenario.RunText.TheVariants.{Log}
use Rattle.fp_main.specs.declared.words.Command.{Command}
use Rattle.fp_main.specs.declared.words.Command.TheVariants.{OfFiles, Make}
use Rattle.fp_main.specs.declared.words.Wanted.{Wanted}
use Rattle.fp_main.specs.declared.words.Wanted.TheVariants.{Listing, OfTopology, Run}
use Rattle.fp_main.specs.declared.words.TopologyText.{TopologyText}
use Rattle.fp_main.specs.declared.words.TopologyText.TheVariants.{Connections, Dictionary}

-- the words `check FILE..` with these files, at least one
pub record IsCheck (words files : List (List ℕ)) : Type 0 where
  pub words_are : words ≡ codes "check" ∷ files
  pub some : 0 < length files

-- the word that asks for a text of a topology
abbrev pub word_of : TopologyText → List ℕ
word_of Connections = codes "ports"
word_of Dictionary = codes "dict"

-- the words `WORD TOPOLOGY FILE..` with the word of this text, this topology, any word, and these files, at least one
pub record Names (text : TopologyText) (words : List (List ℕ)) (topology : List ℕ) (files : List (List ℕ)) : Type 0 where
  pub words_are : words ≡ word_of text ∷ topology ∷ files
  pub some : 0 < length files

-- the words `run TOPOLOGY SCENARIO FILE..` with this topology and this scenario, any words, and these files, at least one
pub record IsRun (words : List (List ℕ)) (topology scenario : List ℕ) (files : List (List ℕ)) : Type 0 where
  pub words_are : words ≡ codes "run" ∷ topology ∷ scenario ∷ files
  pub some : 0 < length files

-- the words name this topology, and ask for these files: for a text of it, or for a run over it
abbrev pub NamesTopology : List (List ℕ) → List ℕ → List (List ℕ) → Type 0
NamesTopology words topology files = ((text : TopologyText) × Names text words topology files) ⊎ ((scenario : List ℕ) × IsRun words topology scenario files)

-- how many instances the load has at most
abbrev pub most_instances : ℕ
most_instances = 60

-- the words `make COUNT` with a decimal number of instances, which has no zeros in front
pub record IsMake (words : List (List ℕ)) (instances : ℕ) : Type 0 where
  pub words_are : words ≡ codes "make" ∷ decimal instances ∷ []
  pub some : 0 < instances
  pub few : instances ≤ most_instances

-- the words are of a form that asks for files, and ask for these
abbrev pub AsksFor : List (List ℕ) → List (List ℕ) → Type 0
AsksFor words files = IsCheck words files ⊎ ((topology : List ℕ) × NamesTopology words topology files)

-- the words are of some form
abbrev pub IsForm : List (List ℕ) → Type 0
IsForm words = ((files : List (List ℕ)) × AsksFor words files) ⊎ ((instances : ℕ) × IsMake words instances)

-- words of some form begin with these
abbrev pub BeginsForm : List (List ℕ) → Type 0
BeginsForm words = (more : List (List ℕ)) × IsForm (words ++ more)

-- the word of this number, counted from 1, is the first that doesn't fit, or is missing
pub record IsWrong (words : List (List ℕ)) (number : ℕ) : Type 0 where
  pub counted : 0 < number
  pub begun : BeginsForm (take (number - 1) words)
  pub ends : ((number ≤ length words) × (BeginsForm (take number words) → ⊥)) ⊎ ((number ≡ length words + 1) × (IsForm words → ⊥))

-- the words are of the form that asks for this, with these files; of a run this is to be told
abbrev pub Spells : RunText → List (List ℕ) → Wanted → List (List ℕ) → Type 0
Spells told words Listing files = IsCheck words files
Spells told words (OfTopology text name) files = Names text words name.now files
Spells told words (Run asked) files = (asked.told ≡ told) × IsRun words asked.topology.now asked.scenario.now files

-- what is made of the words
abbrev pub ReadsWords : List (List ℕ) → Result Command ℕ → Type 0
ReadsWords words (Ok (OfFiles wanted files)) = Spells Log words wanted (map string_bytes files.now)
ReadsWords words (Ok (Make instances)) = IsMake words instances
ReadsWords words (Err number) = IsWrong words number

-- the words that ask for a run of the load over the files that hold it
abbrev pub load_words : List (List ℕ)
load_words = codes "run" ∷ codes "Gen.T" ∷ codes "make.json" ∷ codes "make.fpp" ∷ []
