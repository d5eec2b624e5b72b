-- What resolving asks of a source, of a source that is gathered.
use Rattle.std.proofs.Common.{◌≡◌, ℕ, true, List, Option, Ok, refl, sym, subst}
use Rattle.std.specs.List.{AllByRecursion, Contains, list_all}
use Rattle.fp_base.specs.Names.{is_name}
use Rattle.fp_base.proofs.Lists.{each_contained, each_flat, each_weaker, of_contained, of_item}
use Rattle.fp_outside.specs.declared.files.HeldFile.{HeldFile}
use Rattle.fp_tree.specs.declared.definition.Def.{Def}
use Rattle.fp_tree.specs.declared.definition.Def.TheVariants as def
use Rattle.fp_tree.specs.declared.member.Member.{Member}
use Rattle.fp_tree.specs.declared.source.Source.{Source}
use Rattle.fp_meaning.specs.declared.item.Item.{Item}
use Rattle.fp_meaning.specs.declared.item.Item.TheVariants as item
use Rattle.fp_meaning.specs.declared.names.Definition.{Definition}
use Rattle.fp_meaning.specs.Layout.{items}
use Rattle.fp_meaning.specs.Names.{definitions, definitions_of}
use Rattle.fp_names.specs.Named.{HasNamedFormals, PartsAreNamed, PartsOfItemAreNamed}
use Rattle.fp_source_parts.specs.Ordered.{IsOrdered, MachinesAreOrdered}
use Rattle.fp_source_types.specs.Listed.{EnumsHaveConstants, IsListed}
use Rattle.fp_source_types.specs.Named.{DefinitionsAreNamed, FieldsAreNamed, has_field_names}
use Rattle.fp_type_forms.specs.Written.{TypeHere, types, types_of}
use Rattle.fp_gather.proofs.ItemsKept.{MembersGive, PartsGive, items_have}
use Rattle.fp_gather.specs.FilesRun.{FilesRun}
use Rattle.fp_gather.specs.gathering.Gathered.{Gathers, source_of}
use Rattle.fp_gather.specs.gathering.Names.{HasNamedMembers, IsNamed, MembersAreNamed}
use Rattle.fp_gather.specs.gathering.Walks.{Walked, WalksFiles, Went, nothing_read}

-- what the law on names says
abbrev pub NamesAreNames : Type 0
NamesAreNames =
    (told : Option (List HeldFile)) (names : List (List ℕ)) (walked : Walked) (units : List (List Member)) (i : Item)
    → WalksFiles told names nothing_read (Went walked units) → Contains (items (source_of walked units)) i → IsNamed i

module _ (law : NamesAreNames) (names : List (List ℕ)) (files : FilesRun) (source : Source) (gathered : Gathers names files (Ok source)) where
  all_named : AllByRecursion IsNamed (items source)
  all_named =
      let read = gathered.1 in
      subst (λ (s : Source). AllByRecursion IsNamed (items s)) (sym read.made)
      (each_contained IsNamed (items (source_of gathered.0 read.units)) (λ i there. law files.told names gathered.0 read.units i read.read there))

  pub definitions_named : DefinitionsAreNamed source
  definitions_named k d at =
      of_item (λ (x : Definition). list_all is_name x.name ≡ true) (definitions source) k d
      (each_flat (λ (x : Definition). list_all is_name x.name ≡ true) definitions_of (items source)
      (each_weaker IsNamed (λ i. AllByRecursion (λ (x : Definition). list_all is_name x.name ≡ true) (definitions_of i)) (λ i h. h.definitions) (items source) all_named)) at

  abbrev FieldsNamed : TypeHere → Type 0
  FieldsNamed t = has_field_names t.definition ≡ true

  types_named : (i : Item) → IsNamed i → AllByRecursion FieldsNamed (types_of i)
  types_named (item.Defined s) h = of_definition s.definition h.members
    where
      of_definition : (d : Def) → HasNamedMembers d → AllByRecursion FieldsNamed (types_of (item.Defined (record { scope = s.scope; definition = d })))
      of_definition (def.Constant d) k = tt
      of_definition (def.Abstract d) k = (refl, tt)
      of_definition (def.Alias d) k = (refl, tt)
      of_definition (def.Array d) k = (refl, tt)
      of_definition (def.Struct d) k = (k, tt)
      of_definition (def.Enum d) k = (refl, tt)
      of_definition (def.Port d) k = tt
  types_named (item.Enumerated e) h = tt
  types_named (item.Declared d) h = tt
  types_named (item.Used since n) h = tt
  types_named (item.Written since p) h = tt

  pub fields_named : FieldsAreNamed source
  fields_named k t at =
      of_item FieldsNamed (types source) k t
      (each_flat FieldsNamed types_of (items source) (each_weaker IsNamed (λ i. AllByRecursion FieldsNamed (types_of i)) types_named (items source) all_named)) at

  formals_named : (d : Def) → HasNamedMembers d → HasNamedFormals d
  formals_named (def.Struct d) h = tt
  formals_named (def.Constant d) h = h
  formals_named (def.Abstract d) h = h
  formals_named (def.Alias d) h = h
  formals_named (def.Array d) h = h
  formals_named (def.Enum d) h = h
  formals_named (def.Port d) h = h

  parts_of_item : (i : Item) → MembersAreNamed i → PartsOfItemAreNamed i
  parts_of_item (item.Defined s) h = formals_named s.definition h
  parts_of_item (item.Enumerated e) h = h
  parts_of_item (item.Declared d) h = h
  parts_of_item (item.Used since n) h = h
  parts_of_item (item.Written since p) h = h

  pub parts_named : PartsAreNamed source
  parts_named k i at = parts_of_item i (of_item IsNamed (items source) k i all_named at).members

pub enumerations_listed : MembersGive IsListed → PartsGive IsListed
    → ((source : Source) → ((i : Item) → Contains (items source) i → IsListed i) → EnumsHaveConstants source)
    → (names : List (List ℕ)) (files : FilesRun) (source : Source) → Gathers names files (Ok source) → EnumsHaveConstants source
enumerations_listed law part_law listed names files source gathered =
    let read = gathered.1 in
    let all : AllByRecursion IsListed (items (source_of gathered.0 read.units)) =
    items_have IsListed (λ scope d. tt) (λ scope t. tt) (λ since n. tt) (λ since p. tt) law part_law files.told names gathered.0 read.units read.read in
    listed source (λ i there. of_contained IsListed (items source) i (subst (λ (s : Source). AllByRecursion IsListed (items s)) (sym read.made) all) there)

pub machines_ordered : MembersGive IsOrdered → PartsGive IsOrdered → (names : List (List ℕ)) (files : FilesRun) (source : Source) → Gathers names files (Ok source) → MachinesAreOrdered source
machines_ordered law part_law names files source gathered =
    let read = gathered.1 in
    let all : AllByRecursion IsOrdered (items (source_of gathered.0 read.units)) =
    items_have IsOrdered (λ scope c. tt) (λ scope t. tt) (λ since n. tt) (λ since p. tt) law part_law files.told names gathered.0 read.units read.read in
    λ k i at. of_item IsOrdered (items source) k i (subst (λ (s : Source). AllByRecursion IsOrdered (items s)) (sym read.made) all) at
