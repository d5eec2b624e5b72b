-- What is found of names that stood before, and of the type that represents an enumeration.
use Rattle.std.specs.Prelude.{◌≡◌, ℕ, ℤ, Bool, true, false, ◌||◌, ◌&&◌, cond, is_none, int_le, List, [], Option, Some, None, option_and_then}
use Rattle.fp_base.specs.declared.place.Place.{Place}
use Rattle.fp_base.specs.declared.refusal.Refusal.{Refusal}
use Rattle.fp_base.specs.declared.rule.Rule.TheVariants.{BadConversion, BadMember, OutsideType}
use Rattle.fp_base.specs.declared.value.Value.{Value}
use Rattle.fp_base.specs.Least.{broken_at, IsLeast}
use Rattle.fp_tree.specs.declared.source.Source.{Source}
use Rattle.fp_tree.specs.declared.definition.Def.{Def}
use Rattle.fp_tree.specs.declared.definition.Def.TheVariants as def
use Rattle.fp_tree.specs.declared.definition.Enum.{Enum}
use Rattle.fp_tree.specs.declared.type_name.TypeName.{TypeName}
use Rattle.fp_tree.specs.declared.type_name.TypeForm.{TypeForm}
use Rattle.fp_tree.specs.declared.type_name.TypeForm.TheVariants as type
use Rattle.fp_tree.specs.declared.part.EnumConst.{EnumConst}
use Rattle.fp_tables.specs.declared.kind.Kind.{Kind}
use Rattle.fp_tables.specs.Types.{Shape, integer, shape}
use Rattle.fp_meaning.specs.declared.item.Item.{Item}
use Rattle.fp_meaning.specs.declared.item.Item.TheVariants as item
use Rattle.fp_meaning.specs.Layout.{items}
use Rattle.fp_meaning.specs.Names.{Path}
use Rattle.fp_type_sizes.specs.declared.written.WrittenType.{WrittenType}
use Rattle.fp_type_sizes.specs.declared.written.TypeExtent.{TypeExtent}
use Rattle.fp_type_sizes.specs.Found.{AreExtents}
use Rattle.fp_type_sizes.specs.Sized.{kind_extent}
use Rattle.fp_type_forms.specs.declared.ranges.Range.{Range}
use Rattle.fp_type_forms.specs.declared.resolving.Resolution.{Resolution}
use Rattle.fp_type_forms.specs.Broken.{BrokenByEnum, ByOptional, FormsBroken, RepeatsIn, RepeatsMember, constant_place}
use Rattle.fp_type_forms.specs.Resolved.{AreResolved}
use Rattle.fp_type_forms.specs.Written.{ConstantIs}

-- ---- names

abbrev pub name_fault : Bool → Place → Option Refusal
name_fault again place = cond again (Some (broken_at BadMember place)) None

-- what a definition repeats in the names of its members, or in the expression that gives it its value
abbrev pub NamesByDefinition : Def → Refusal → Type 0
NamesByDefinition (def.Constant d) = RepeatsIn d.value
NamesByDefinition (def.Struct d) = RepeatsMember (def.Struct d)
NamesByDefinition _ = λ f. ⊥

abbrev pub NamesByItem : Item → Refusal → Type 0
NamesByItem (item.Defined s) = NamesByDefinition s.definition
NamesByItem (item.Enumerated e) = ByOptional RepeatsIn e.constant.value
NamesByItem (item.Declared d) = λ f. ⊥
NamesByItem (item.Used since n) = λ f. ⊥
NamesByItem (item.Written since p) = RepeatsIn p.expression

-- ---- representations

abbrev pub range_with : Shape → Option Range
range_with (integer low high) = Some (record { low = low; high = high })
range_with _ = None

-- the numbers of an integer type
abbrev pub range_of : Kind → Option Range
range_of k = range_with (shape [] k)

-- by what a type is behind its aliases
abbrev pub range_in : Option TypeExtent → Option Range
range_in None = None
range_in (Some x) = range_of x.end

abbrev pub is_no_integer : Option TypeExtent → Bool
is_no_integer None = false
is_no_integer (Some x) = is_none (range_of x.end)

abbrev pub extent_of : List (Option TypeExtent) → Option Kind → Option TypeExtent
extent_of table o = option_and_then (kind_extent table) o

abbrev pub is_float : TypeForm → Bool
is_float type.F32 = true
is_float type.F64 = true
is_float _ = false

abbrev pub repr_fault : Option TypeName → Option TypeExtent → Option Refusal
repr_fault None o = None
repr_fault (Some t) o = cond (is_float t.form || is_no_integer o) (Some (broken_at BadConversion t.at.first)) None

abbrev pub is_within : Range → ℤ → Bool
is_within r n = int_le r.low n && int_le n r.high

abbrev pub beyond_fault : Place → Option Range → Option ℤ → Option Refusal
beyond_fault place None o = None
beyond_fault place (Some r) None = None
beyond_fault place (Some r) (Some n) = cond (is_within r n) None (Some (broken_at OutsideType place))

-- the number of a constant isn't in the range
abbrev pub IsBeyond : Source → Path → Option Range → Enum → ℕ → EnumConst → Refusal → Type 0
IsBeyond source scope range d j c f =
    (f ≡ broken_at OutsideType (constant_place c)) × (r : Range) × (n : ℤ) × (range ≡ Some r) × ConstantIs source scope d j c.value n × (is_within r n ≡ false)

abbrev pub EnumByItem : List WrittenType → Source → Item → Refusal → Type 0
EnumByItem ws source (item.Defined s) = BrokenByEnum source s.scope ws s.definition
EnumByItem ws source _ = λ f. ⊥

-- the least of all, where these are the items of a source and are resolved
abbrev pub LeastOfForms : List (Option TypeExtent) → List (Option Value) → List Resolution → List Item → Option Refusal → Type 0
LeastOfForms table marks rs is first =
    (source : Source) (ws : List WrittenType) → AreExtents ws table → is ≡ items source → AreResolved source marks rs is 0 → IsLeast (FormsBroken source ws) first
