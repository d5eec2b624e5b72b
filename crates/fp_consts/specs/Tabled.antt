-- The values of the definitions of a source, by their numbers.
use Rattle.std.specs.Prelude.{◌≡◌, ℕ, ◌<◌, Bool, true, false, List, length, slice_get, Option, Some, None}
use Rattle.fp_tree.specs.declared.source.Source.{Source}
use Rattle.fp_meaning.specs.Meaning.{AreMeanings}
use Rattle.fp_meaning.specs.Names.{definitions, mentions}
use Rattle.fp_meaning.specs.declared.item.Item.{Item}
use Rattle.fp_meaning.specs.Layout as layout
use Rattle.fp_consts.specs.declared.measured.Measured.{Measured}
use Rattle.fp_consts.specs.Examined.{IsExact, value_at}
use Rattle.fp_consts.specs.Laid.{firsts_from, spots_from}
use Rattle.fp_consts.specs.Settled.{Settles}

-- the items of the source, where the uses of its definitions begin, and what its uses mean
pub record IsLaidOut (source : Source) (items : List Item) (firsts spots meanings : List ℕ) : Type 0 where
  pub laid : items ≡ layout.items source
  pub meant : AreMeanings (definitions source) (mentions source) meanings
  pub begun : firsts ≡ firsts_from (length meanings) 0 items
  pub spotted : spots ≡ spots_from 0 items

-- what is found of the definition with a number: nothing where it is on a cycle, and else what it settles to
pub record IsDefined (items : List Item) (firsts spots meanings : List ℕ) (cyclic : List Bool) (table : List (Option Measured)) (number : ℕ) (o : Option Measured) : Type 0 where
  pub on_cycle : slice_get cyclic number ≡ Some true → o ≡ None
  pub off_cycle : (spot first : ℕ) (item : Item) → slice_get cyclic number ≡ Some false → slice_get spots number ≡ Some spot
      → slice_get firsts number ≡ Some first → slice_get items spot ≡ Some item → Settles table meanings item first o

-- the table has the value of each definition
abbrev pub AreExact : Source → List (Option Measured) → Type 0
AreExact source table = (number : ℕ) → number < length (definitions source) → IsExact source number (value_at table number)

-- of the first of an order
abbrev pub AreExactFirst : Source → List ℕ → ℕ → List (Option Measured) → Type 0
AreExactFirst source order k table = (j number : ℕ) → j < k → slice_get order j ≡ Some number → IsExact source number (value_at table number)
