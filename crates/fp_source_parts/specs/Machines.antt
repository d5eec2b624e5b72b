-- The state machines of a source, and what instances of them break. FPP Language Specification, "State Machine Definitions" and "State Machine
-- Instance Specifiers".
use Rattle.std.specs.Prelude.{ℕ, Bool, is_none, List, [], ◌∷◌, flat_map, map}
use Rattle.fp_base.specs.declared.refusal.Refusal.{Refusal}
use Rattle.fp_base.specs.Least.{InSome}
use Rattle.fp_tree.specs.declared.machine.Machine.{Machine}
use Rattle.fp_tree.specs.declared.source.Source.{Source}
use Rattle.fp_meaning.specs.declared.item.Item.{Item}
use Rattle.fp_meaning.specs.declared.item.Item.TheVariants as item
use Rattle.fp_meaning.specs.Layout.{items}
use Rattle.fp_meaning.specs.Names.{Path}
use Rattle.fp_meaning.specs.Sites.{ModelDef, machine}
use Rattle.fp_component_forms.specs.declared.writing.WrittenSource.{WrittenSource}
use Rattle.fp_component_forms.specs.Written.{IsWrittenSource, Scoped, scoped}
use Rattle.fp_dictdefs.specs.Running.{RunningBroken}

abbrev pub machine_in : Path → ModelDef → List (Scoped Machine)
machine_in scope (machine d) = scoped scope d ∷ []
machine_in scope _ = []

abbrev pub machine_declared : Item → List (Scoped Machine)
machine_declared (item.Declared d) = machine_in d.scope d.definition
machine_declared _ = []

-- in source order: a state machine is named by its position here
abbrev pub machines : Source → List (Scoped Machine)
machines source = flat_map machine_declared (items source)

-- its body is written elsewhere
abbrev pub is_outside : Scoped Machine → Bool
is_outside m = is_none m.node.behavior

abbrev pub externals : Source → List Bool
externals source = map is_outside (machines source)

-- what is written of components is one thing
pub record InstancesBroken (source : Source) (f : Refusal) : Type 0 where
  pub written : WrittenSource
  pub are : IsWrittenSource source written
  pub broken : InSome (λ (k : ℕ). RunningBroken (externals source)) written.components f
