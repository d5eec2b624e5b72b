-- What the code finds on its way: of elements what they are for the rules, and of definitions what they are as types.
use Rattle.std.specs.Prelude.{◌≡◌, ℕ, zero, suc, Bool, true, false, cond, not, ◌&&◌, ◌||◌, ◌+◌, ◌==◌, List, [], ◌∷◌, ◌++◌, flat_map, Option, Some, None, slice_get, unwrap_or, MatchBool}
use Rattle.fp_base.specs.declared.place.Place.{Place}
use Rattle.fp_base.specs.declared.refusal.Refusal.{Refusal}
use Rattle.fp_base.specs.declared.rule.Rule.TheVariants.{FieldCount, FieldKind, LoneBrace}
use Rattle.fp_base.specs.Least.{broken_at, lesser_of}
use Rattle.fp_tree.specs.declared.definition.Def.{Def}
use Rattle.fp_tree.specs.declared.definition.Def.TheVariants as def
use Rattle.fp_tree.specs.declared.name.Qual.{Qual}
use Rattle.fp_tree.specs.declared.part.Formal.{Formal}
use Rattle.fp_tree.specs.declared.type_name.TypeForm.{TypeForm}
use Rattle.fp_tree.specs.declared.type_name.TypeForm.TheVariants as type
use Rattle.fp_meaning.specs.declared.group.Group.TheVariants.{Kind}
use Rattle.fp_meaning.specs.declared.names.Definition.{Definition}
use Rattle.fp_meaning.specs.Meaning.{Means}
use Rattle.fp_meaning.specs.declared.item.Item.{Item}
use Rattle.fp_meaning.specs.Names.{Path, definitions_of}
use Rattle.fp_meaning.specs.Sites.{Site}
use Rattle.fp_meaning.specs.Values.{names_of}
use Rattle.fp_formats.specs.Spelling.{is_form}
use Rattle.fp_base.specs.Formats.{is_empty_text}
use Rattle.fp_type_formats.specs.declared.reading.Mark.{Mark}
use Rattle.fp_type_formats.specs.declared.reading.Mark.TheVariants as mark
use Rattle.fp_type_formats.specs.declared.reading.Reading.{Reading}
use Rattle.fp_type_formats.specs.declared.sorts.Sort.{Sort}
use Rattle.fp_type_formats.specs.declared.sorts.Sort.TheVariants as sort
use Rattle.fp_type_formats.specs.Elements.{Element, plain, escape, field, lone, element_text, IsElement, IsReading}
use Rattle.fp_type_formats.specs.Integers.{NamesNoInteger, is_other_definition, is_other_word, sites_of}

-- ---- a text

abbrev pub field_mark : List ℕ → Mark
field_mark inside = cond (is_form inside) (cond (is_empty_text inside) mark.Any mark.Numeric) mark.Other

abbrev pub mark_of : Element → Mark
mark_of (plain b) = mark.Text
mark_of (escape b) = mark.Text
mark_of (field inside) = field_mark inside
mark_of (lone b) = mark.Lone

-- the first element, and what stands behind it
pub record IsNext (text : List ℕ) (m : Mark) (after : List ℕ) : Type 0 where
  pub element : Element
  pub stands : text ≡ element_text element ++ after
  pub is : IsElement element after
  pub marked : mark_of element ≡ m

abbrev pub nothing_read : Reading
nothing_read = record { fields = 0; other = false; unfit = false; lone = false }

-- whether what the field k prints is no integer, by a list of the first fields and one answer for all behind these
abbrev pub unfit_at : List Bool → Bool → ℕ → Bool
unfit_at unfit others k = unwrap_or (slice_get unfit k) others

abbrev pub with_field : Reading → Reading
with_field r = record { fields = r.fields + 1; other = r.other; unfit = r.unfit; lone = r.lone }

abbrev pub with_mark : (ℕ → Bool) → Mark → Reading → Reading
with_mark unfit mark.Text r = r
with_mark unfit mark.Any r = with_field r
with_mark unfit mark.Numeric r = record { fields = r.fields + 1; other = r.other; unfit = r.unfit || unfit r.fields; lone = r.lone }
with_mark unfit mark.Other r = record { fields = r.fields + 1; other = true; unfit = r.unfit; lone = r.lone }
with_mark unfit mark.Lone r = record { fields = r.fields; other = r.other; unfit = r.unfit; lone = true }

abbrev pub read_on : (ℕ → Bool) → Reading → List Element → Reading
read_on unfit r [] = r
read_on unfit r (e ∷ es) = read_on unfit (with_mark unfit (mark_of e) r) es

-- the text can be read, and this is what is read of it
pub record IsReadAs (unfit : ℕ → Bool) (text : List ℕ) (r : Reading) : Type 0 where
  pub elements : List Element
  pub reading : IsReading elements text
  pub exact : (es : List Element) → IsReading es text → r ≡ read_on unfit nothing_read es

-- what is found of the format of so many values
abbrev pub fault_found : Reading → ℕ → Place → Option Refusal
fault_found r values place =
    lesser_of (cond (not (r.other || r.lone) && not (r.fields == values)) (Some (broken_at FieldCount place)) None)
    (lesser_of (cond (r.other || r.unfit) (Some (broken_at FieldKind place)) None)
    (cond r.lone (Some (broken_at LoneBrace place)) None))

-- ---- types

abbrev pub word_sort : TypeForm → Sort
word_sort t = cond (is_other_word t) sort.Other sort.Integer

abbrev pub definition_sort : Def → Sort
definition_sort d = cond (is_other_definition d) sort.Other sort.Nothing

module _ (ds : List Definition) where
  abbrev pub IsSortOfUse : Path → Qual → Sort → Type 0
  IsSortOfUse scope q (sort.Named number) = Means ds scope (names_of q) Kind number
  IsSortOfUse scope q sort.Nothing = (number : ℕ) → Means ds scope (names_of q) Kind number → ⊥
  IsSortOfUse scope q _ = ⊥

  -- of a type name, as far as it goes without following it
  abbrev pub IsSortOfName : Path → TypeForm → Sort → Type 0
  IsSortOfName scope (type.Use q) s = IsSortOfUse scope q s
  IsSortOfName scope t s = s ≡ word_sort t

  abbrev pub IsSortOfDefinition : Path → Def → Sort → Type 0
  IsSortOfDefinition scope (def.Alias d) s = IsSortOfName scope d.target.form s
  IsSortOfDefinition scope d s = s ≡ definition_sort d

  abbrev pub IsSortOfSite : Option Site → Sort → Type 0
  IsSortOfSite None s = s ≡ sort.Nothing
  IsSortOfSite (Some x) s = IsSortOfDefinition x.scope x.definition s

  -- of each definition
  abbrev pub AreSorts : List (Option Site) → List Sort → Type 0
  AreSorts [] [] = Unit {0}
  AreSorts [] (s ∷ ss) = ⊥
  AreSorts (o ∷ os) [] = ⊥
  AreSorts (o ∷ os) (s ∷ ss) = IsSortOfSite o s × AreSorts os ss

abbrev pub sort_if : Option Sort → Sort
sort_if None = sort.Nothing
sort_if (Some s) = s

-- no integer type, by so many steps at most
abbrev pub ends_other : ℕ → List Sort → Sort → Bool
ends_other n ss sort.Integer = false
ends_other n ss sort.Other = true
ends_other n ss sort.Nothing = false
ends_other zero ss (sort.Named number) = false
ends_other (suc n) ss (sort.Named number) = ends_other n ss (sort_if (slice_get ss number))

-- the names and the sorts are those of the definitions of the items
pub record AreFound (is : List Item) (ds : List Definition) (ss : List Sort) : Type 0 where
  pub names : ds ≡ flat_map definitions_of is
  pub sorts : AreSorts ds (flat_map sites_of is) ss

-- ---- what formats print

-- whether a type name in a scope names a type that is no integer type
abbrev pub IsUnfit : List Item → Path → TypeForm → Bool → Type 0
IsUnfit is scope t unfit = MatchBool unfit (NamesNoInteger is 256 scope t) (NamesNoInteger is 256 scope t → ⊥)

-- the same of each parameter
abbrev pub AreUnfit : List Item → Path → List Formal → List Bool → Type 0
AreUnfit is scope [] [] = Unit {0}
AreUnfit is scope [] (b ∷ bs) = ⊥
AreUnfit is scope (x ∷ xs) [] = ⊥
AreUnfit is scope (x ∷ xs) (b ∷ bs) = IsUnfit is scope x.of.form b × AreUnfit is scope xs bs
