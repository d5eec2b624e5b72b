-- The files that names ask for with the files that they include, in the order of reading: a file, then its first include with that one's
-- includes, and so on.
use Rattle.std.specs.Prelude.{ℕ, zero, suc, ◌≡◌, ◌≤◌, ◌⊎◌, Bool, true, false, List, [], ◌∷◌, ◌++◌, length, sum_by, count_by, Contains, Option, Some, None}
use Rattle.fp_base.specs.declared.refusal.Refusal.{Refusal}
use Rattle.fp_base.specs.declared.rule.Rule.TheVariants.{BadInclude}
use Rattle.fp_outside.specs.declared.files.HeldFile.{HeldFile}
use Rattle.fp_parse_parts.specs.declared.parsing.Inside.{Inside}
use Rattle.fp_parse_parts.specs.declared.parsing.Inside.TheVariants as inside
use Rattle.fp_parse_parts.specs.declared.parsing.Members.{Members}
use Rattle.fp_parse_parts.specs.declared.parsing.Members.TheVariants as given
use Rattle.fp_tree.specs.declared.member.Member.{Member}
use Rattle.fp_base.specs.Least.{broken_at}
use Rattle.fp_gather.specs.FilesRun.{IsHeld}
use Rattle.fp_gather.specs.declared.gathering.including.Inclusion.{Inclusion}
use Rattle.fp_gather.specs.gathering.Includes.{included_name, inclusions_in, replaced}
use Rattle.fp_gather.specs.gathering.Reading.{Reading, Gives, nothing_in}

-- the files that were read, in their order, and where an include breaks its rule
pub record Walked : Type 0 where
  pub readings : List Reading
  pub refused : List Refusal

abbrev pub nothing_read : Walked
nothing_read = record { readings = []; refused = [] }

-- why a walk stops
pub data Stopped : Type 0 where
  NoFile : List ℕ → Stopped
  ReadFault : List ℕ → Stopped

-- how a walk ends: it went through, and gives something; or it stopped at a file
pub data Outcome (A : Type 0) : Type 0 where
  Went : Walked → A → Outcome A
  Stops : Stopped → Outcome A

-- it doesn't stop at a read that failed
abbrev pub NoReadFault : {A : Type 0} → Outcome A → Type 0
NoReadFault (Went after gives) = Unit {0}
NoReadFault (Stops (NoFile name)) = Unit {0}
NoReadFault (Stops (ReadFault name)) = ⊥

-- what may come of a walk, behind what was read before
abbrev pub Walk : Type 0 → Type 1
Walk A = Walked → Outcome A → Type 0

-- one after another; each gives something
abbrev pub WalksEach : {X A : Type 0} → (X → Walk A) → List X → Walk (List A)
WalksEach P [] before (Went after gives) = (after ≡ before) × (gives ≡ [])
WalksEach P [] before (Stops stopped) = ⊥
WalksEach {A = A} P (x ∷ xs) before (Went after gives) =
    (between : Walked) × (first : A) × (others : List A) × P x before (Went between first) × WalksEach P xs between (Went after others) × (gives ≡ first ∷ others)
WalksEach {A = A} P (x ∷ xs) before (Stops stopped) =
    P x before (Stops stopped) ⊎ ((between : Walked) × (first : A) × P x before (Went between first) × WalksEach P xs between (Stops stopped))

abbrev pub bytes_of : List Reading → ℕ
bytes_of readings = sum_by (λ (r : Reading). length r.text) readings

-- a file of a name that is read next, with what its include stands in and the files round it
abbrev pub next_reading : Walked → List (List ℕ) → Inside → List ℕ → List ℕ → Reading
next_reading before round within name text =
    record { name = name; text = text; inside = within; number = length before.readings; bytes_before = bytes_of before.readings; round = round }

abbrev pub with_reading : Walked → Reading → Walked
with_reading before r = record { readings = before.readings ++ r ∷ []; refused = before.refused }

-- the read of one file: where the files tell what they hold, they have its text, or don't have it
abbrev pub Reads : Option (List HeldFile) → List (List ℕ) → Inside → List ℕ → Walk Members
Reads told round within name before (Went after own) =
    (text : List ℕ) × IsHeld told name (Some text) × (after ≡ with_reading before (next_reading before round within name text))
    × Gives (next_reading before round within name text) own
Reads told round within name before (Stops (NoFile absent)) = (absent ≡ name) × IsHeld told name None
Reads told round within name before (Stops (ReadFault failed)) = failed ≡ name

-- a file with the files that it includes, which gives what stands in it with each include replaced
abbrev pub WalksFile : Option (List HeldFile) → (List (List ℕ) → Inclusion → Walk Members) → List (List ℕ) → Inside → List ℕ → Walk Members
WalksFile told inclusion round within name before (Went after whole) =
    (read : Walked) × (own : Members) × (inserts : List Members) × Reads told round within name before (Went read own)
    × WalksEach (inclusion (name ∷ round)) (inclusions_in own) read (Went after inserts) × (whole ≡ replaced own inserts)
WalksFile told inclusion round within name before (Stops stopped) =
    Reads told round within name before (Stops stopped)
    ⊎ ((read : Walked) × (own : Members) × Reads told round within name before (Went read own) × WalksEach (inclusion (name ∷ round)) (inclusions_in own) read (Stops stopped))

-- how deep inclusions nest at most
abbrev pub most_levels : ℕ
most_levels = 16

-- how many there are at most
abbrev pub most_inclusions : ℕ
most_inclusions = 1024

abbrev pub has_some : List (List ℕ) → Bool
has_some [] = false
has_some (name ∷ names) = true

abbrev pub is_included : Reading → Bool
is_included r = has_some r.round

-- N4 with levels left: the file is one of those round it, or there are as many inclusions as may be
abbrev pub IsBad : Walked → List (List ℕ) → List ℕ → Type 0
IsBad before round name = Contains round name ⊎ (most_inclusions ≤ count_by is_included before.readings)

abbrev pub with_refused : Walked → Refusal → Walked
with_refused before f = record { readings = before.readings; refused = before.refused ++ f ∷ [] }

-- an include that breaks its rule isn't read, and nothing stands in its place
abbrev pub IsRefused : Inclusion → Walked → Outcome Members → Type 0
IsRefused i before o = o ≡ Went (with_refused before (broken_at BadInclude i.include.at.first)) (nothing_in i.inside)

-- an include in the nearest of these files, where inclusions may nest so many levels deeper
abbrev pub WalksInclude : Option (List HeldFile) → ℕ → List (List ℕ) → Inclusion → Walk Members
WalksInclude told zero round i before o = IsRefused i before o
WalksInclude told (suc levels) round i before o =
    (IsBad before round (included_name round i.include) × IsRefused i before o)
    ⊎ ((IsBad before round (included_name round i.include) → ⊥) × WalksFile told (WalksInclude told levels) round i.inside (included_name round i.include) before o)

-- a file that no other includes, with the files that it includes: it is one of members
abbrev pub WalksNamed : Option (List HeldFile) → List ℕ → Walk (List Member)
WalksNamed told name before (Went after ms) = WalksFile told (WalksInclude told most_levels) [] inside.Unit name before (Went after (given.Unit ms))
WalksNamed told name before (Stops stopped) = WalksFile told (WalksInclude told most_levels) [] inside.Unit name before (Stops stopped)

-- the files of these names, each with the files that it includes; each gives its members
abbrev pub WalksFiles : Option (List HeldFile) → List (List ℕ) → Walk (List (List Member))
WalksFiles told names = WalksEach (WalksNamed told) names
