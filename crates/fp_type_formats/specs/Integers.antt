-- Type names that name no integer type, by the definitions that they mean; what values and types come to plays no part.
-- FPP Language Specification, "Type Names", "Type Alias Definitions", "Primitive Integer Types".
use Rattle.std.specs.Prelude.{◌≡◌, ℕ, suc, Bool, true, false, List, [], ◌∷◌, flat_map, slice_get, Option, Some, None}
use Rattle.fp_tree.specs.declared.definition.Def.{Def}
use Rattle.fp_tree.specs.declared.definition.Def.TheVariants as def
use Rattle.fp_tree.specs.declared.definition.Alias.{Alias}
use Rattle.fp_tree.specs.declared.name.Qual.{Qual}
use Rattle.fp_tree.specs.declared.type_name.TypeForm.{TypeForm}
use Rattle.fp_tree.specs.declared.type_name.TypeForm.TheVariants as type
use Rattle.fp_meaning.specs.declared.group.Group.TheVariants.{Kind}
use Rattle.fp_meaning.specs.declared.item.Item.{Item}
use Rattle.fp_meaning.specs.declared.item.Item.TheVariants as item
use Rattle.fp_meaning.specs.Meaning.{Means}
use Rattle.fp_meaning.specs.Names.{Path, definitions_of}
use Rattle.fp_meaning.specs.Sites.{Site}
use Rattle.fp_meaning.specs.Values.{names_of}

-- the definition of a constant, a type or a port in its scope, for each definition that an item gives; a constant of an enumeration stands in
-- none, and what else is defined is no such definition
abbrev pub sites_of : Item → List (Option Site)
sites_of (item.Defined s) = Some s ∷ []
sites_of (item.Enumerated e) = None ∷ []
sites_of (item.Declared d) = None ∷ []
sites_of _ = []

-- a word for a truth value, a text or a float
abbrev pub is_other_word : TypeForm → Bool
is_other_word type.F32 = true
is_other_word type.F64 = true
is_other_word type.Bool = true
is_other_word (type.Text size) = true
is_other_word _ = false

-- it defines a type, which is no alias: an integer type is defined nowhere
abbrev pub is_other_definition : Def → Bool
is_other_definition (def.Abstract d) = true
is_other_definition (def.Array d) = true
is_other_definition (def.Struct d) = true
is_other_definition (def.Enum d) = true
is_other_definition _ = false

module _ (is : List Item) where
  -- the definition with the number stands here
  abbrev pub StandsAt : ℕ → Site → Type 0
  StandsAt number s = slice_get (flat_map sites_of is) number ≡ Some (Some s)

  -- a type name in a scope names a type that is no integer type, behind its aliases, by so many uses of names at most
  pub data NamesNoInteger : ℕ → Path → TypeForm → Type 0 where
    by_word : {n : ℕ} {scope : Path} {t : TypeForm} → is_other_word t ≡ true → NamesNoInteger n scope t
    by_definition : {n : ℕ} {scope : Path} {q : Qual} (number : ℕ) (s : Site) → Means (flat_map definitions_of is) scope (names_of q) Kind number
        → StandsAt number s → is_other_definition s.definition ≡ true → NamesNoInteger (suc n) scope (type.Use q)
    by_alias : {n : ℕ} {scope : Path} {q : Qual} (number : ℕ) (s : Site) (d : Alias) → Means (flat_map definitions_of is) scope (names_of q) Kind number
        → StandsAt number s → s.definition ≡ def.Alias d → NamesNoInteger n s.scope d.target.form → NamesNoInteger (suc n) scope (type.Use q)
