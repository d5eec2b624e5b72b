-- What a format is that breaks no rule: it reads as pieces, and these take the values that it is the format of.
-- FPP Language Specification, "Format Strings".
use Rattle.std.specs.Prelude.{◌≡◌, ℕ, true, ℤ, List, [], ◌∷◌, slice_get, Option, Some, None}
use Rattle.fp_base.specs.declared.format.FormatPiece.{FormatPiece}
use Rattle.fp_base.specs.declared.format.FormatPiece.TheVariants as piece
use Rattle.fp_base.specs.declared.value.Value.{Value, Int}
use Rattle.fp_tree.specs.declared.name.Str.{Str}
use Rattle.fp_tree.specs.declared.definition.Def.{Def}
use Rattle.fp_tree.specs.declared.definition.Def.TheVariants as def
use Rattle.fp_tree.specs.declared.type_name.TypeName.{TypeName}
use Rattle.fp_tree.specs.declared.part.Field.{Field as Member}
use Rattle.fp_tree.specs.declared.part.Formal.{Formal}
use Rattle.fp_tree.specs.declared.component.Part.{Part}
use Rattle.fp_tree.specs.declared.component.Part.TheVariants as part
use Rattle.fp_tree.specs.declared.dictionary.Event.{Event}
use Rattle.fp_meaning.specs.declared.item.Item.{Item}
use Rattle.fp_meaning.specs.declared.item.Item.TheVariants as item
use Rattle.fp_meaning.specs.Layout.{component_scope}
use Rattle.fp_meaning.specs.Names.{Path}
use Rattle.fp_meaning.specs.Sites.{ModelDef, component}
use Rattle.fp_formats.specs.Fits.{fits}
use Rattle.fp_formats.specs.Spelling.{IsFormat}
use Rattle.fp_type_formats.specs.Integers.{NamesNoInteger}

-- a field other than `{}` isn't of what is no integer
abbrev pub Suits : {A : Type 0} → (A → Type 0) → FormatPiece → A → Type 0
Suits NoInteger piece.Any x = Unit {0}
Suits NoInteger p x = NoInteger x → ⊥

-- there is one field for each, in order
abbrev pub Agree : {A : Type 0} → (A → Type 0) → List FormatPiece → List A → Type 0
Agree NoInteger [] [] = Unit {0}
Agree NoInteger [] (x ∷ xs) = ⊥
Agree NoInteger (piece.Plain s ∷ ps) xs = Agree NoInteger ps xs
Agree NoInteger (p ∷ ps) [] = ⊥
Agree NoInteger (p ∷ ps) (x ∷ xs) = Suits NoInteger p x × Agree NoInteger ps xs

module _ (is : List Item) where
  -- any integer, and where the type is no integer type any value
  pub record IsReadable (scope : Path) (t : TypeName) (s : Str) : Type 0 where
    pub parts : List FormatPiece
    pub format : IsFormat s.text parts
    pub integers : (n : ℤ) → fits parts (Int n ∷ []) ≡ true
    pub others : NamesNoInteger is 256 scope t.form → (v : Value) → fits parts (v ∷ []) ≡ true

  abbrev pub IsReadableIf : Path → TypeName → Option Str → Type 0
  IsReadableIf scope t None = Unit {0}
  IsReadableIf scope t (Some s) = IsReadable scope t s

  abbrev pub HasReadable : Path → Def → Type 0
  HasReadable scope (def.Array d) = IsReadableIf scope d.element d.format
  HasReadable scope (def.Struct d) = (k : ℕ) (m : Member) → slice_get d.fields k ≡ Some m → IsReadableIf scope m.of m.format
  HasReadable scope _ = Unit {0}

  -- there is one field for each parameter, and one that prints a number isn't of a parameter whose type is no integer type
  pub record IsReadableEvent (scope : Path) (e : Event) : Type 0 where
    pub parts : List FormatPiece
    pub format : IsFormat e.format.text parts
    pub parameters : Agree (λ (x : Formal). NamesNoInteger is 256 scope x.of.form) parts e.formals

  abbrev pub HasReadablePart : Path → Part → Type 0
  HasReadablePart scope (part.Event e) = IsReadableEvent scope e
  HasReadablePart scope (part.Channel c) = IsReadableIf scope c.of c.format
  HasReadablePart scope _ = Unit {0}

  abbrev pub HasReadableParts : Path → ModelDef → Type 0
  HasReadableParts scope (component c) = (k : ℕ) (p : Part) → slice_get c.parts k ≡ Some p → HasReadablePart (component_scope scope c) p
  HasReadableParts scope _ = Unit {0}

  -- each format that an item has
  abbrev pub AreReadable : Item → Type 0
  AreReadable (item.Defined s) = HasReadable s.scope s.definition
  AreReadable (item.Declared d) = HasReadableParts d.scope d.definition
  AreReadable _ = Unit {0}
