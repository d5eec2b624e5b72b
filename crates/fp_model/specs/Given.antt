-- The constants of items from the values of their expressions, which stand one behind another.
use Rattle.std.specs.Prelude.{◌≡◌, ℕ, ◌+◌, ◌<◌, List, [], ◌∷◌, ◌++◌, length, slice_get, Option, Some}
use Rattle.std.specs.Option.{option_flatten}
use Rattle.fp_component_forms.specs.Written.{qualified}
use Rattle.fp_base.specs.declared.value.Value.{Value}
use Rattle.fp_tree.specs.declared.source.Source.{Source}
use Rattle.fp_tree.specs.declared.definition.Def.{Def}
use Rattle.fp_tree.specs.declared.definition.Constant.{Constant as Written}
use Rattle.fp_tree.specs.declared.expression.Expr.{Expr}
use Rattle.fp_tables.specs.declared.kind.Constant.{Constant}
use Rattle.fp_meaning.specs.declared.item.Item.{Item}
use Rattle.fp_meaning.specs.Names.{Path}
use Rattle.fp_meaning.specs.Origins.{Placed, one, expressions_of}
use Rattle.fp_meaning.specs.Sites.{in_optional, value_in}
use Rattle.fp_meaning.specs.Values.{opened, Val}
use Rattle.fp_model.specs.declared.constants.ConstantsFound.{ConstantsFound}
use Rattle.fp_model.specs.Definitions.{ConstantHere, constants_in, constants_of}
use Rattle.fp_model.specs.Defined.{AreConstants}

abbrev pub value_at : List (Option Value) → ℕ → Option Value
value_at values at = option_flatten (slice_get values at)

module _ (source : Source) (values : List (Option Value)) where
  -- the value of an expression stands at a place
  abbrev pub StandsAt : Placed → ℕ → Type 0
  StandsAt p from = (v : Value) × (slice_get values from ≡ Some (Some v)) × Val source p.scope (opened p.expression) v

  -- the values of expressions stand there from a place on
  abbrev pub StandFrom : List Placed → ℕ → Type 0
  StandFrom [] from = Unit {0}
  StandFrom (p ∷ ps) from = StandsAt p from × StandFrom ps (from + 1)

-- with the constants of more items, and the place behind the values of their expressions
pub record Adds (source : Source) (ps : List Placed) (hs : List ConstantHere) (before after : ConstantsFound) : Type 0 where
  pub constants : (gs : List ConstantHere) → AreConstants source gs before.constants → AreConstants source (gs ++ hs) after.constants
  pub next : after.next ≡ before.next + length ps

-- where these values stand from the place on
abbrev pub AddsIf : List (Option Value) → List Placed → List ConstantHere → ConstantsFound → ConstantsFound → Type 0
AddsIf values ps hs before after = (source : Source) → StandFrom source values ps before.next → Adds source ps hs before after

abbrev pub AddsItem : List (Option Value) → Item → ConstantsFound → ConstantsFound → Type 0
AddsItem values i = AddsIf values (expressions_of i) (constants_of i)

abbrev pub AddsDefinition : List (Option Value) → Path → Def → ConstantsFound → ConstantsFound → Type 0
AddsDefinition values scope d = AddsIf values (in_optional (one scope) (value_in d)) (constants_in scope d)

-- past the value of an expression that may be left out
abbrev pub Passes : List (Option Value) → Option Expr → ConstantsFound → ConstantsFound → Type 0
Passes values o before after = (scope : Path) → AddsIf values (in_optional (one scope) o) [] before after

-- past one value, where there is one
abbrev pub Counts : ℕ → ℕ → ℕ → Type 0
Counts count before after = before < count → after ≡ before + 1

abbrev pub constant_with : Path → Written → Value → Constant
constant_with scope d v = record { name = qualified scope d.name; value = v; note = d.note }
