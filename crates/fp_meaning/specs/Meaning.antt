-- What a use means. FPP Language Specification, "Scoping of Names", "Resolution of Qualified Identifiers".
use Rattle.std.specs.Prelude.{◌≡◌, ℕ, ◌<◌, List, [], ◌∷◌, ◌++◌, length, slice_get, Some}
use Rattle.fp_meaning.specs.declared.group.Group.{Group}
use Rattle.fp_meaning.specs.declared.names.Definition.{Definition}
use Rattle.fp_meaning.specs.declared.names.Mention.{Mention}
use Rattle.fp_meaning.specs.Names.{Path}

-- the definition with the number is of the group and has the qualified name
pub record IsNamed (definitions : List Definition) (group : Group) (name : Path) (number : ℕ) : Type 0 where
  pub definition : Definition
  pub here : slice_get definitions number ≡ Some definition
  pub of_group : definition.group ≡ group
  pub of_name : definition.name ≡ name

-- a definition of the group has a qualified name that begins so
abbrev pub IsKnown : List Definition → Group → Path → Type 0
IsKnown definitions group prefix = (number : ℕ) × (rest : Path) × IsNamed definitions group (prefix ++ rest) number

-- the first definition of the group with the qualified name; it is the only one where no name is defined twice
pub record IsFirst (definitions : List Definition) (group : Group) (name : Path) (number : ℕ) : Type 0 where
  pub named : IsNamed definitions group name number
  pub first : (earlier : ℕ) → earlier < number → IsNamed definitions group name earlier → ⊥

-- the longest prefix of the scope behind which the use's first name begins the qualified name of a definition of the group
pub record IsScopeOf (definitions : List Definition) (scope : Path) (group : Group) (first : List ℕ) (prefix : Path) : Type 0 where
  pub rest : Path
  pub within : scope ≡ prefix ++ rest
  pub known : IsKnown definitions group (prefix ++ first ∷ [])
  pub longest : (longer more : Path) → scope ≡ longer ++ more → length prefix < length longer → IsKnown definitions group (longer ++ first ∷ []) → ⊥

-- a use in a scope means, of the group, the definition whose qualified name is that prefix followed by the whole use. The empty name
-- means nothing
pub record Means (definitions : List Definition) (scope use_ : Path) (group : Group) (number : ℕ) : Type 0 where
  pub first : List ℕ
  pub others : Path
  pub names : use_ ≡ first ∷ others
  pub prefix : Path
  pub found : IsScopeOf definitions scope group first prefix
  pub meant : IsFirst definitions group (prefix ++ use_) number

-- it means something of the group
abbrev pub HasMeaning : List Definition → Mention → Group → Type 0
HasMeaning definitions m group = (number : ℕ) × Means definitions m.scope m.name group number

-- the numbers are those of what the uses mean, one for each
pub record AreMeanings (definitions : List Definition) (mentions : List Mention) (meanings : List ℕ) : Type 0 where
  pub each : length meanings ≡ length mentions
  pub meant : (k : ℕ) (m : Mention) (number : ℕ) → slice_get mentions k ≡ Some m → slice_get meanings k ≡ Some number
      → Means definitions m.scope m.name m.group number
