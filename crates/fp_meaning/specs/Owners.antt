-- Which definition has each use of a name, and how many constants each definition has.
use Rattle.std.specs.Prelude.{ℕ, ◌+◌, ◌-◌, List, [], ◌∷◌, ◌++◌, length, replicate}
use Rattle.fp_tree.specs.declared.definition.Def.{Def}
use Rattle.fp_tree.specs.declared.definition.Def.TheVariants as def
use Rattle.fp_meaning.specs.declared.item.Item.{Item}
use Rattle.fp_meaning.specs.declared.item.Item.TheVariants as item
use Rattle.fp_meaning.specs.Names.{definitions_of, uses_of}

-- the number of the definition that has an item, behind so many definitions
abbrev pub owner_of : ℕ → Item → ℕ
owner_of number (item.Defined s) = number
owner_of number (item.Enumerated e) = number
owner_of number (item.Declared d) = number
owner_of number (item.Used since n) = number - 1 - since
owner_of number (item.Written since p) = number - 1 - since

-- the owners of the uses in items, one for each use, behind so many definitions
abbrev pub owners_from : ℕ → List Item → List ℕ
owners_from number [] = []
owners_from number (i ∷ is) = replicate (length (uses_of i)) (owner_of number i) ++ owners_from (number + length (definitions_of i)) is

-- how many constants a definition has, which are the definitions behind it
abbrev pub constants_in : Def → ℕ
constants_in (def.Enum d) = length d.constants
constants_in _ = 0

abbrev pub counts_of : Item → List ℕ
counts_of (item.Defined s) = constants_in s.definition ∷ []
counts_of (item.Enumerated e) = 0 ∷ []
counts_of (item.Declared d) = 0 ∷ []
counts_of (item.Used since n) = []
counts_of (item.Written since p) = []
