-- What the ports and components of a source come to. FPP Language Specification, "Definitions".
use Rattle.std.specs.Prelude.{◌≡◌, List, map}
use Rattle.fp_tree.specs.declared.source.Source.{Source}
use Rattle.fp_type_sizes.specs.declared.written.WrittenType.{WrittenType}
use Rattle.fp_component_forms.specs.declared.writing.WrittenSource.{WrittenSource}
use Rattle.fp_component_forms.specs.Written.{IsWrittenSource}
use Rattle.fp_components.specs.Resolved.{AreComponents, port_def_of}
use Rattle.fp_source_parts.specs.declared.parts.Parts.{Parts}

-- the definitions of ports and the components, in source order, from what is written of these and of the types
pub record ArePartsOf (source : Source) (ws : List WrittenType) (parts : Parts) : Type 0 where
  pub written : WrittenSource
  pub are : IsWrittenSource source written
  pub ports : parts.ports ≡ map port_def_of written.definitions
  pub components : AreComponents written.interfaces written.definitions ws written.components parts.components
