-- The rules that the formats of arrays, of struct fields, of events and of telemetry channels break, each at the format. FPP Language
-- Specification, "Format Strings", "Array Definitions", "Struct Definitions", "Event Specifiers", "Telemetry Channel Specifiers".
use Rattle.std.specs.Prelude.{◌≡◌, ℕ, true, false, ◌⊎◌, List, length, slice_get, Option, Some, None}
use Rattle.std.specs.List.{list_any}
use Rattle.fp_base.specs.declared.place.Place.{Place}
use Rattle.fp_base.specs.declared.refusal.Refusal.{Refusal}
use Rattle.fp_base.specs.declared.rule.Rule.TheVariants.{FieldCount, FieldKind, LoneBrace}
use Rattle.fp_base.specs.Least.{broken_at, Either, InSome}
use Rattle.fp_tree.specs.declared.source.Source.{Source}
use Rattle.fp_tree.specs.declared.name.Str.{Str}
use Rattle.fp_tree.specs.declared.definition.Def.{Def}
use Rattle.fp_tree.specs.declared.definition.Def.TheVariants as def
use Rattle.fp_tree.specs.declared.type_name.TypeName.{TypeName}
use Rattle.fp_tree.specs.declared.part.Field.{Field as Member}
use Rattle.fp_tree.specs.declared.part.Formal.{Formal}
use Rattle.fp_tree.specs.declared.component.Part.{Part}
use Rattle.fp_tree.specs.declared.component.Part.TheVariants as part
use Rattle.fp_tree.specs.declared.dictionary.Event.{Event}
use Rattle.fp_meaning.specs.declared.item.Item.{Item}
use Rattle.fp_meaning.specs.declared.item.Item.TheVariants as item
use Rattle.fp_meaning.specs.Layout.{component_scope, items}
use Rattle.fp_meaning.specs.Names.{Path}
use Rattle.fp_meaning.specs.Sites.{ModelDef, component}
use Rattle.fp_type_formats.specs.Elements.{Element, IsReading, HasUnfitField, fields_of, is_lone, is_malformed, is_other}
use Rattle.fp_type_formats.specs.Integers.{NamesNoInteger}

module _ (text : List ℕ) (place : Place) where
  -- there isn't one field for each of so many values. It isn't read of a text that is no format
  abbrev pub IsMiscounted : ℕ → Refusal → Type 0
  IsMiscounted values f = (f ≡ broken_at FieldCount place) × ((es : List Element) × IsReading es text × (is_malformed es ≡ false) × (length (fields_of es) ≡ values → ⊥))

  -- anywhere stands a field of another form, or one that prints a number where what it prints is none
  abbrev pub HasBadField : (ℕ → Type 0) → Refusal → Type 0
  HasBadField unfit f = (f ≡ broken_at FieldKind place) × ((es : List Element) × IsReading es text × ((list_any is_other es ≡ true) ⊎ HasUnfitField unfit es))

  -- anywhere stands a brace that is part of no field or escape
  abbrev pub HasLoneBrace : Refusal → Type 0
  HasLoneBrace f = (f ≡ broken_at LoneBrace place) × ((es : List Element) × IsReading es text × (list_any is_lone es ≡ true))

  -- the format of so many values, where the fields with these numbers, counted from 0, print what is no integer
  abbrev pub BrokenByFields : ℕ → (ℕ → Type 0) → Refusal → Type 0
  BrokenByFields values unfit = Either (IsMiscounted values) (Either (HasBadField unfit) HasLoneBrace)

  -- the format of one value, which is or isn't of an integer type, and which every field prints
  abbrev pub BrokenByText : Type 0 → Refusal → Type 0
  BrokenByText unfit = BrokenByFields 1 (λ k. unfit)

module _ (is : List Item) where
  -- A type behind more than 256 uses of names isn't followed to its end: the limit on chains is then broken at the name of the definition
  -- that has the format, which stands before it, or for channels and events at that of the type that is used
  abbrev pub BrokenByFormat : Path → TypeName → Option Str → Refusal → Type 0
  BrokenByFormat scope t None = λ f. ⊥
  BrokenByFormat scope t (Some s) = BrokenByText s.text s.at.first (NamesNoInteger is 256 scope t.form)

  -- the format of a field that is itself an array is that of its elements
  abbrev pub BrokenByMember : Path → Member → Refusal → Type 0
  BrokenByMember scope m = BrokenByFormat scope m.of m.format

  abbrev pub BrokenByDefinition : Path → Def → Refusal → Type 0
  BrokenByDefinition scope (def.Array d) = BrokenByFormat scope d.element d.format
  BrokenByDefinition scope (def.Struct d) = InSome (λ k. BrokenByMember scope) d.fields
  BrokenByDefinition scope _ = λ f. ⊥

  -- the field k, counted from 0, prints the parameter k, whose type is no integer type. A field behind these prints nothing
  abbrev pub PrintsNoInteger : Path → List Formal → ℕ → Type 0
  PrintsNoInteger scope formals k = (x : Formal) × (slice_get formals k ≡ Some x) × NamesNoInteger is 256 scope x.of.form

  abbrev pub BrokenByEvent : Path → Event → Refusal → Type 0
  BrokenByEvent scope e = BrokenByFields e.format.text e.format.at.first (length e.formals) (PrintsNoInteger scope e.formals)

  abbrev pub BrokenByPart : Path → Part → Refusal → Type 0
  BrokenByPart scope (part.Event e) = BrokenByEvent scope e
  BrokenByPart scope (part.Channel c) = BrokenByFormat scope c.of c.format
  BrokenByPart scope _ = λ f. ⊥

  abbrev pub BrokenByModelDef : Path → ModelDef → Refusal → Type 0
  BrokenByModelDef scope (component c) = InSome (λ k. BrokenByPart (component_scope scope c)) c.parts
  BrokenByModelDef scope _ = λ f. ⊥

  abbrev pub BrokenByItem : Item → Refusal → Type 0
  BrokenByItem (item.Defined s) = BrokenByDefinition s.scope s.definition
  BrokenByItem (item.Declared d) = BrokenByModelDef d.scope d.definition
  BrokenByItem _ = λ f. ⊥

  abbrev pub BrokenByFormats : Refusal → Type 0
  BrokenByFormats = InSome (λ k. BrokenByItem) is

abbrev pub FormatsBroken : Source → Refusal → Type 0
FormatsBroken source = BrokenByFormats (items source)
