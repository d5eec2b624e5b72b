-- What the lexical elements ask of names. FPP Language Specification, "Lexical Elements", identifiers.
use Rattle.std.specs.Prelude.{◌≡◌, ℕ, Bool, true, Some, slice_get}
use Rattle.std.specs.List.{list_all}
use Rattle.fp_base.specs.Names.{is_name}
use Rattle.fp_tree.specs.declared.source.Source.{Source}
use Rattle.fp_tree.specs.declared.definition.Def.{Def}
use Rattle.fp_tree.specs.declared.definition.Def.TheVariants as def
use Rattle.fp_tree.specs.declared.part.Field.{Field}
use Rattle.fp_meaning.specs.declared.names.Definition.{Definition}
use Rattle.fp_meaning.specs.Names.{definitions}
use Rattle.fp_type_forms.specs.Written.{TypeHere, types}

-- each name in the qualified name of a definition is a name of the language
abbrev pub DefinitionsAreNamed : Source → Type 0
DefinitionsAreNamed source = (k : ℕ) (d : Definition) → slice_get (definitions source) k ≡ Some d → list_all is_name d.name ≡ true

-- and so is the name of each member of a struct
abbrev pub has_field_names : Def → Bool
has_field_names (def.Struct d) = list_all (λ (f : Field). is_name f.name.text) d.fields
has_field_names _ = true

abbrev pub FieldsAreNamed : Source → Type 0
FieldsAreNamed source = (i : ℕ) (t : TypeHere) → slice_get (types source) i ≡ Some t → has_field_names t.definition ≡ true
