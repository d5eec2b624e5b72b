-- Names of the language in what files give. FPP Language Specification, "Lexical Elements", identifiers.
use Rattle.std.specs.Prelude.{◌≡◌, true}
use Rattle.std.specs.List.{AllByRecursion, list_all}
use Rattle.fp_base.specs.Names.{is_name}
use Rattle.fp_tree.specs.declared.definition.Def.{Def}
use Rattle.fp_tree.specs.declared.definition.Def.TheVariants as def
use Rattle.fp_tree.specs.declared.part.Field.{Field}
use Rattle.fp_meaning.specs.declared.item.Item.{Item}
use Rattle.fp_meaning.specs.declared.item.Item.TheVariants as item
use Rattle.fp_meaning.specs.declared.names.Definition.{Definition}
use Rattle.fp_meaning.specs.Names.{definitions_of}
use Rattle.fp_names.specs.Named.{HasNamedFormals, PartsOfItemAreNamed}

-- the name of each member of a struct is one, and of each parameter of a port
abbrev pub HasNamedMembers : Def → Type 0
HasNamedMembers (def.Struct d) = list_all (λ (f : Field). is_name f.name.text) d.fields ≡ true
HasNamedMembers d = HasNamedFormals d

abbrev pub MembersAreNamed : Item → Type 0
MembersAreNamed (item.Defined s) = HasNamedMembers s.definition
MembersAreNamed i = PartsOfItemAreNamed i

-- each name in the qualified names that an item defines is one, and so is that of each member
pub record IsNamed (i : Item) : Type 0 where
  pub definitions : AllByRecursion (λ (d : Definition). list_all is_name d.name ≡ true) (definitions_of i)
  pub members : MembersAreNamed i
