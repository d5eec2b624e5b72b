-- The rules that the state machines of a source break. FPP Language Specification, "State Machine Definitions" and "State Machine Behavior Elements".
use Rattle.std.specs.Prelude.{ℕ, List, map, Option, None, Some}
use Rattle.fp_base.specs.declared.place.Place.{Place}
use Rattle.fp_base.specs.declared.refusal.Refusal.{Refusal}
use Rattle.fp_base.specs.Least.{InSome}
use Rattle.fp_tree.specs.declared.machine.Behavior.{Behavior}
use Rattle.fp_tree.specs.declared.machine.BehaviorElement.{BehaviorElement}
use Rattle.fp_tree.specs.declared.machine.Machine.{Machine}
use Rattle.fp_tree.specs.declared.source.Source.{Source}
use Rattle.fp_tables.specs.declared.kind.Kind.{Kind}
use Rattle.fp_tables.specs.declared.kind.TypeDef.{TypeDef}
use Rattle.fp_meaning.specs.declared.item.Item.{Item}
use Rattle.fp_meaning.specs.declared.item.Item.TheVariants as item
use Rattle.fp_meaning.specs.Layout.{items}
use Rattle.fp_meaning.specs.Names.{Path}
use Rattle.fp_meaning.specs.Sites.{ModelDef, machine}
use Rattle.fp_source_types.specs.Typed.{AreTypesOf}
use Rattle.fp_machine_rules.specs.Broken.{MachineBroken}
use Rattle.fp_machines.specs.Layout.{laid}
use Rattle.fp_machines.specs.Numbers.{type_numbers}
use Rattle.fp_source_parts.specs.DeclaredElements.{DeclareAll}

-- the types of the source are these
module _ (types : List TypeDef) (source : Source) where
  -- by the elements of a machine whose name stands at a place, over the kinds of what they declare
  pub record BrokenElements (scope : Path) (place : Place) (es : List BehaviorElement) (f : Refusal) : Type 0 where
    pub kinds : List (Option Kind)
    pub declared : DeclareAll source scope es kinds
    pub broken : MachineBroken (laid place es (type_numbers types kinds)) f

  -- a machine whose body is written elsewhere breaks no rule
  abbrev pub BrokenBehavior : Path → Place → Option Behavior → Refusal → Type 0
  BrokenBehavior scope place None f = ⊥
  BrokenBehavior scope place (Some b) f = BrokenElements scope place b.elements f

  abbrev pub BrokenMachine : Path → Machine → Refusal → Type 0
  BrokenMachine scope m = BrokenBehavior scope m.name.at.first m.behavior

  abbrev pub BrokenModel : Path → ModelDef → Refusal → Type 0
  BrokenModel scope (machine m) f = BrokenMachine scope m f
  BrokenModel scope _ f = ⊥

  abbrev pub BrokenItem : Item → Refusal → Type 0
  BrokenItem (item.Declared d) f = BrokenModel d.scope d.definition f
  BrokenItem _ f = ⊥

-- the types, which are given, are one list
pub record MachinesBroken (source : Source) (f : Refusal) : Type 0 where
  pub types : List TypeDef
  pub given : AreTypesOf source (map (λ (d : TypeDef). Some d) types)
  pub broken : InSome (λ (k : ℕ). BrokenItem types source) (items source) f
