-- Types that are too large, by the places of their names.
use Rattle.std.specs.Prelude.{◌≡◌, ℕ, List}
use Rattle.fp_base.specs.declared.place.Place.{Place}
use Rattle.fp_base.specs.declared.refusal.Refusal.{Refusal}
use Rattle.fp_base.specs.declared.rule.Rule.TheVariants.{ValueTooLarge}
use Rattle.fp_tables.specs.declared.kind.Kind.TheVariants as kind
use Rattle.fp_base.specs.Least.{broken_at}
use Rattle.fp_type_sizes.specs.declared.written.WrittenType.{WrittenType}
use Rattle.fp_type_sizes.specs.Sizes.{IsTooLarge}

-- V16, at the name of the type with the number
abbrev pub IsTypeLarge : List WrittenType → ℕ → Place → Refusal → Type 0
IsTypeLarge ws i place f = (f ≡ broken_at ValueTooLarge place) × IsTooLarge ws (kind.Named i)
