-- V1 in the expressions of phases of instances: they aren't looked up and have no value, and a float in one is refused all the same.
-- FPP Language Specification, "Component Instance Definitions" and "Expressions".
use Rattle.std.specs.Prelude.{◌≡◌, ℕ, List, Some, slice_get}
use Rattle.fp_base.specs.declared.place.Place.{Place}
use Rattle.fp_base.specs.declared.refusal.Refusal.{Refusal}
use Rattle.fp_base.specs.declared.rule.Rule.TheVariants.{FloatUsed}
use Rattle.fp_base.specs.Least.{broken_at, InSome}
use Rattle.fp_tree.specs.declared.source.Source.{Source}
use Rattle.fp_tree.specs.declared.expression.Expr.{Expr}
use Rattle.fp_tree.specs.declared.expression.Form.TheOpen as form
use Rattle.fp_tree.specs.declared.instance.Phase.{Phase}
use Rattle.fp_meaning.specs.declared.item.Item.{Item}
use Rattle.fp_meaning.specs.declared.item.Item.TheVariants as item
use Rattle.fp_meaning.specs.ConstantFaults.{parts_of}
use Rattle.fp_meaning.specs.Layout.{items}
use Rattle.fp_meaning.specs.Sites.{ModelDef, machine, component, interface, instance, topology}
use Rattle.fp_meaning.specs.Values.{opened}

-- a float begins at the place: the expression itself, or one within it
pub data HasFloat : Expr → Place → Type 0 where
  itself : {e : Expr} → opened e ≡ form.Float → HasFloat e e.at.first
  within : {e part : Expr} {place : Place} (k : ℕ) → slice_get (parts_of (opened e)) k ≡ Some part → HasFloat part place → HasFloat e place

abbrev pub FloatBroken : Expr → Refusal → Type 0
FloatBroken e f = (place : Place) × HasFloat e place × (f ≡ broken_at FloatUsed place)

abbrev pub BrokenByPhase : Phase → Refusal → Type 0
BrokenByPhase p = FloatBroken p.phase

abbrev pub BrokenByDefinition : ModelDef → Refusal → Type 0
BrokenByDefinition (machine d) = λ f. ⊥
BrokenByDefinition (component d) = λ f. ⊥
BrokenByDefinition (interface d) = λ f. ⊥
BrokenByDefinition (instance d) = InSome (λ k. BrokenByPhase) d.phases
BrokenByDefinition (topology d) = λ f. ⊥

abbrev pub BrokenByItem : Item → Refusal → Type 0
BrokenByItem (item.Declared d) = BrokenByDefinition d.definition
BrokenByItem _ = λ f. ⊥

abbrev pub BrokenByItems : List Item → Refusal → Type 0
BrokenByItems is = InSome (λ k. BrokenByItem) is

-- in all instances of a source
abbrev pub PhasesBroken : Source → Refusal → Type 0
PhasesBroken source = BrokenByItems (items source)
