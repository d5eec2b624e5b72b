-- For each definition of a source that is laid out flat the number of its first use, and which item it is.
use Rattle.std.specs.Prelude.{◌≡◌, ℕ, suc, ◌+◌, min, max, List, [], ◌∷◌, ◌++◌, length, map}
use Rattle.fp_meaning.specs.declared.names.Definition.{Definition}
use Rattle.fp_meaning.specs.declared.names.Mention.{Mention}
use Rattle.fp_meaning.specs.declared.item.Item.{Item}
use Rattle.fp_meaning.specs.Names.{definitions_of, uses_of}
use Rattle.fp_consts.specs.declared.laying.Laid.{Laid}

-- so many uses on, as far as there are uses
abbrev pub past : ℕ → ℕ → ℕ → ℕ
past n limit next = max next (min (next + n) limit)

abbrev pub IsPast : List Mention → ℕ → ℕ → ℕ → Type 0
IsPast ms limit next reached = reached ≡ past (length ms) limit next

abbrev pub next_of : ℕ → ℕ → Item → ℕ
next_of limit next i = past (length (uses_of i)) limit next

-- for each definition that an item is
abbrev pub firsts_of : ℕ → Item → List ℕ
firsts_of next i = map (λ (d : Definition). next) (definitions_of i)

abbrev pub firsts_from : ℕ → ℕ → List Item → List ℕ
firsts_from limit next [] = []
firsts_from limit next (i ∷ is) = firsts_of next i ++ firsts_from limit (next_of limit next i) is

abbrev pub spots_of : ℕ → Item → List ℕ
spots_of index i = map (λ (d : Definition). index) (definitions_of i)

abbrev pub spots_from : ℕ → List Item → List ℕ
spots_from index [] = []
spots_from index (i ∷ is) = spots_of index i ++ spots_from (suc index) is

pub record IsLaidWith (limit index : ℕ) (i : Item) (before after : Laid) : Type 0 where
  pub firsts : after.firsts ≡ before.firsts ++ firsts_of before.next i
  pub spots : after.spots ≡ before.spots ++ spots_of index i
  pub next : after.next ≡ next_of limit before.next i
