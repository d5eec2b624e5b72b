-- What the state machines of a source come to. FPP Language Specification, "State Machine Definitions".
use Rattle.std.specs.Prelude.{◌≡◌, List, Option}
use Rattle.fp_tree.specs.declared.machine.Machine.{Machine as Written}
use Rattle.fp_tree.specs.declared.source.Source.{Source}
use Rattle.fp_tables.specs.declared.kind.Kind.{Kind}
use Rattle.fp_tables.specs.declared.machine.Machine.{Machine}
use Rattle.fp_names.specs.Named.{elements_in}
use Rattle.fp_type_forms.specs.Written.{AllAt}
use Rattle.fp_component_forms.specs.Written.{Scoped, qualified}
use Rattle.fp_machines.specs.Made.{machine_of}
use Rattle.fp_source_parts.specs.Machines.{machines}
use Rattle.fp_source_parts.specs.DeclaredElements.{DeclareAll}

-- a machine by its qualified name, over the kinds of what its elements declare
pub record IsMachine (source : Source) (m : Scoped Written) (d : Machine) : Type 0 where
  pub kinds : List (Option Kind)
  pub declared : DeclareAll source m.scope (elements_in m.node.behavior) kinds
  pub made : d ≡ machine_of (qualified m.scope m.node.name) m.node.behavior kinds

-- in source order
abbrev pub AreMachinesOf : Source → List Machine → Type 0
AreMachinesOf source ds = AllAt (λ position. IsMachine source) 0 (machines source) ds
