-- The constants of a source, and the order of its definitions. FPP Language Specification, "Constant Definitions", "Component Definitions",
-- "State Machine Definitions", "Component Instance Definitions", "Topology Definitions", "Names of Definitions".
-- This profile: interfaces are never listed, so that they have no place in the order.
use Rattle.std.specs.Prelude.{List, [], ◌∷◌, ◌++◌, length, flat_map}
use Rattle.fp_tree.specs.declared.source.Source.{Source}
use Rattle.fp_tree.specs.declared.definition.Def.{Def}
use Rattle.fp_tree.specs.declared.definition.Def.TheVariants as def
use Rattle.fp_tree.specs.declared.definition.Constant.{Constant}
use Rattle.fp_tables.specs.declared.model.Item.{Item as Ordered}
use Rattle.fp_tables.specs.declared.model.Item.TheVariants as ordered
use Rattle.fp_meaning.specs.declared.item.Item.{Item}
use Rattle.fp_meaning.specs.declared.item.Item.TheVariants as item
use Rattle.fp_meaning.specs.Layout.{items}
use Rattle.fp_meaning.specs.Names.{Path}
use Rattle.fp_meaning.specs.Sites.{ModelDef, component, instance, machine, topology}
use Rattle.fp_type_forms.specs.Written.{types_of}
use Rattle.fp_component_forms.specs.Written.{component_declared, port_declared}
use Rattle.fp_source_parts.specs.Machines.{machine_declared}
use Rattle.fp_topology_forms.specs.Written.{instance_of, topology_of}

-- a constant definition in its scope
pub record ConstantHere : Type 0 where
  pub scope : Path
  pub constant : Constant

abbrev pub constant_here : Path → Constant → ConstantHere
constant_here scope d = record { scope = scope; constant = d }

abbrev pub constants_in : Path → Def → List ConstantHere
constants_in scope (def.Constant d) = constant_here scope d ∷ []
constants_in scope _ = []

abbrev pub constants_of : Item → List ConstantHere
constants_of (item.Defined s) = constants_in s.scope s.definition
constants_of _ = []

-- in the order of the source; the constants of enumerations belong to these
abbrev pub constants : Source → List ConstantHere
constants source = flat_map constants_of (items source)

-- a definition behind items: by its position among those of its sort, which is how many of these stand before it
abbrev pub order_in : List Item → Def → Ordered
order_in before (def.Constant d) = ordered.Constant (length (flat_map constants_of before))
order_in before (def.Port p) = ordered.Port (length (flat_map port_declared before))
order_in before _ = ordered.Kind (length (flat_map types_of before))

abbrev pub order_declared : List Item → ModelDef → List Ordered
order_declared before (component c) = ordered.Component (length (flat_map component_declared before)) ∷ []
order_declared before (machine d) = ordered.Machine (length (flat_map machine_declared before)) ∷ []
order_declared before (instance d) = ordered.Instance (length (flat_map instance_of before)) ∷ []
order_declared before (topology d) = ordered.Topology (length (flat_map topology_of before)) ∷ []
order_declared before _ = []

abbrev pub order_of : List Item → Item → List Ordered
order_of before (item.Defined s) = order_in before s.definition ∷ []
order_of before (item.Declared d) = order_declared before d.definition
order_of before _ = []

abbrev pub order_behind : List Item → List Item → List Ordered
order_behind before [] = []
order_behind before (i ∷ is) = order_of before i ++ order_behind (before ++ i ∷ []) is

-- all definitions in the order of the source
abbrev pub order : Source → List Ordered
order source = order_behind [] (items source)
