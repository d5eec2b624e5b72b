-- What is found of a value and a type that may be wanting, and what is passed.
use Rattle.std.specs.Prelude.{cond, List, Option, Some, None}
use Rattle.fp_base.specs.declared.place.Place.{Place}
use Rattle.fp_base.specs.declared.refusal.Refusal.{Refusal}
use Rattle.fp_base.specs.declared.value.Value.{Value}
use Rattle.fp_tables.specs.declared.kind.Kind.{Kind}
use Rattle.fp_type_sizes.specs.declared.written.TypeExtent.{TypeExtent}
use Rattle.fp_type_sizes.specs.declared.written.WrittenType.{WrittenType}
use Rattle.fp_type_sizes.specs.Sized.{ends_in_integer, kind_extent}
use Rattle.fp_types.specs.Converting.{of_kind, opened}
use Rattle.fp_types.specs.Faults.{Misfits}

-- the rule that a conversion breaks, where there is a type and a value
abbrev pub MisfitsIf : List WrittenType → Place → Option Kind → Option Value → Refusal → Type 0
MisfitsIf ws place None o f = ⊥
MisfitsIf ws place (Some k) None f = ⊥
MisfitsIf ws place (Some k) (Some v) f = Misfits ws place (opened v) (of_kind k) f

-- the type, if it is an integer type behind its aliases
abbrev pub if_integer : List (Option TypeExtent) → Kind → Option Kind
if_integer table k = cond (ends_in_integer (kind_extent table k)) (Some k) None

abbrev pub integer_in : List (Option TypeExtent) → Option Kind → Option Kind
integer_in table None = None
integer_in table (Some k) = if_integer table k
