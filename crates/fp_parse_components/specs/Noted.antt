-- Parts of components and of interfaces, with the annotations that lists have of them. FPP Language Specification, "Comments and
-- Annotations".
use Rattle.std.specs.Prelude.{ℕ, List, [], map}
use Rattle.fp_tree.specs.declared.component.Part.{Part}
use Rattle.fp_tree.specs.declared.component.Part.TheVariants as part
use Rattle.fp_tree.specs.declared.component.InterfacePart.{InterfacePart}
use Rattle.fp_tree.specs.declared.component.InterfacePart.TheVariants as inner
use Rattle.fp_parse_components.specs.declared.noting.NotedPart.{NotedPart}
use Rattle.fp_parse_components.specs.declared.noting.NotedInterfacePart.{NotedInterfacePart}
use Rattle.fp_parse_defs.specs.Definitions.{noted_definition}

-- a part with this annotation
abbrev pub noted_part : Part → List ℕ → Part
noted_part (part.Def d) note = part.Def (noted_definition d note)
noted_part (part.Machine m) note = part.Machine (record m { note = note })
noted_part (part.General p) note = part.General (record p { note = note })
noted_part (part.Special p) note = part.Special (record p { note = note })
noted_part (part.Internal p) note = part.Internal (record p { note = note })
noted_part (part.Command c) note = part.Command (record c { note = note })
noted_part (part.Event e) note = part.Event (record e { note = note })
noted_part (part.Channel c) note = part.Channel (record c { note = note })
noted_part (part.Param p) note = part.Param (record p { note = note })
noted_part (part.Match m) note = part.Match (record m { note = note })
noted_part (part.Running r) note = part.Running (record r { note = note })
noted_part (part.Import i) note = part.Import (record i { note = note })
noted_part (part.Include i) note = part.Include (record i { note = note })

abbrev pub bare_part : Part → NotedPart
bare_part p = record { bare = p; note = [] }

abbrev pub part_with_note : NotedPart → List ℕ → NotedPart
part_with_note p note = record { bare = p.bare; note = note }

abbrev pub with_its_note : NotedPart → Part
with_its_note p = noted_part p.bare p.note

abbrev pub noted_parts : List NotedPart → List Part
noted_parts ps = map with_its_note ps

abbrev pub noted_interface_part : InterfacePart → List ℕ → InterfacePart
noted_interface_part (inner.General p) note = inner.General (record p { note = note })
noted_interface_part (inner.Special p) note = inner.Special (record p { note = note })
noted_interface_part (inner.Import i) note = inner.Import (record i { note = note })

abbrev pub bare_interface_part : InterfacePart → NotedInterfacePart
bare_interface_part p = record { bare = p; note = [] }

abbrev pub interface_part_with_note : NotedInterfacePart → List ℕ → NotedInterfacePart
interface_part_with_note p note = record { bare = p.bare; note = note }

abbrev pub with_inner_note : NotedInterfacePart → InterfacePart
with_inner_note p = noted_interface_part p.bare p.note

abbrev pub noted_interface_parts : List NotedInterfacePart → List InterfacePart
noted_interface_parts ps = map with_inner_note ps
