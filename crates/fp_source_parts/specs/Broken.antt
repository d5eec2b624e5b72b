-- The rules that the ports, dictionaries and components of a source break. FPP Language Specification, "Port Definitions", "Port Interface Definitions",
-- "Component Definitions".
use Rattle.std.specs.Prelude.{ℕ, List, map, Some}
use Rattle.fp_base.specs.declared.refusal.Refusal.{Refusal}
use Rattle.fp_base.specs.Least.{Either, InSome}
use Rattle.fp_tree.specs.declared.source.Source.{Source}
use Rattle.fp_tables.specs.declared.kind.TypeDef.{TypeDef}
use Rattle.fp_source_types.specs.Typed.{AreTypesOf}
use Rattle.fp_component_forms.specs.declared.writing.WrittenSource.{WrittenSource}
use Rattle.fp_component_forms.specs.Written.{IsWrittenSource}
use Rattle.fp_component_rules.specs.PortBroken.{PortsBroken}
use Rattle.fp_dictdefs.specs.Broken.{DictionaryBroken}
use Rattle.fp_component_rules.specs.Broken.{ComponentsBroken}

-- by what is written, of which types are these
abbrev pub BrokenBy : List TypeDef → WrittenSource → Refusal → Type 0
BrokenBy types w =
    Either (PortsBroken w.definitions w.interfaces w.components)
    (Either (InSome (λ (k : ℕ). DictionaryBroken types) w.components) (ComponentsBroken w.interfaces w.components))

-- what is written of ports, interfaces and components is one thing, and the types, which are given, are one list
pub record PartsBroken (source : Source) (f : Refusal) : Type 0 where
  pub written : WrittenSource
  pub are : IsWrittenSource source written
  pub types : List TypeDef
  pub given : AreTypesOf source (map (λ (d : TypeDef). Some d) types)
  pub broken : BrokenBy types written f
