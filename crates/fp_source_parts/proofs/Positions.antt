-- A name means one of the definitions of its group: its position among them lies in their list.
use Rattle.std.proofs.Common.{◌≡◌, ℕ, ◌<◌, cond, List, [], ◌∷◌, length, take, refl, arith}
use Rattle.fp_topology_forms.proofs.Places.{position_lies}
use Rattle.fp_tree.specs.declared.source.Source.{Source}
use Rattle.fp_tree.specs.declared.definition.Def.{Def}
use Rattle.fp_tree.specs.declared.definition.Def.TheVariants as def
use Rattle.fp_tree.specs.declared.name.Qual.{Qual}
use Rattle.fp_meaning.specs.declared.group.Group.{Group}
use Rattle.fp_meaning.specs.declared.group.Group.TheVariants as group
use Rattle.fp_meaning.specs.declared.item.Item.{Item}
use Rattle.fp_meaning.specs.declared.item.Item.TheVariants as item
use Rattle.fp_meaning.specs.declared.names.Definition.{Definition}
use Rattle.fp_meaning.specs.Meaning.{Means}
use Rattle.fp_meaning.specs.Names.{Path, definitions, definitions_of, defined, group_of, model_group, model_name, name_of}
use Rattle.fp_meaning.specs.Values.{names_of}
use Rattle.fp_meaning.specs.Sites.{ModelDef, machine, component, interface, instance, topology}
use Rattle.fp_type_forms.specs.Written.{is_kind, types, types_among, types_before, types_in, types_of}
use Rattle.fp_component_forms.specs.Written.{PositionIs, among, before, interface_in, interface_declared, interfaces, port_definitions, port_in, port_declared, same_group}

-- ---- interfaces, and definitions of ports

one_interface_of : (i : Item) → among group.Interface (definitions_of i) ≡ length (interface_declared i)
one_interface_of (item.Defined s) = of_definition s.scope s.definition
  where
    of_definition : (scope : Path) (d : Def) → among group.Interface (defined (group_of d) scope (name_of d) ∷ []) ≡ 0
    of_definition scope (def.Constant d) = refl
    of_definition scope (def.Abstract d) = refl
    of_definition scope (def.Alias d) = refl
    of_definition scope (def.Array d) = refl
    of_definition scope (def.Struct d) = refl
    of_definition scope (def.Enum d) = refl
    of_definition scope (def.Port d) = refl
one_interface_of (item.Enumerated e) = refl
one_interface_of (item.Declared d) = of_model d.scope d.definition
  where
    of_model : (scope : Path) (d : ModelDef) → among group.Interface (defined (model_group d) scope (model_name d) ∷ []) ≡ length (interface_in scope d)
    of_model scope (machine d) = refl
    of_model scope (component d) = refl
    of_model scope (interface d) = refl
    of_model scope (instance d) = refl
    of_model scope (topology d) = refl
one_interface_of (item.Used since n) = refl
one_interface_of (item.Written since p) = refl

pub interface_lies : (source : Source) (scope : Path) (q : Qual) (position : ℕ) → PositionIs source scope group.Interface q position → position < length (interfaces source)
interface_lies = position_lies group.Interface interface_declared one_interface_of

one_port_of : (i : Item) → among group.Port (definitions_of i) ≡ length (port_declared i)
one_port_of (item.Defined s) = of_definition s.scope s.definition
  where
    of_definition : (scope : Path) (d : Def) → among group.Port (defined (group_of d) scope (name_of d) ∷ []) ≡ length (port_in scope d)
    of_definition scope (def.Constant d) = refl
    of_definition scope (def.Abstract d) = refl
    of_definition scope (def.Alias d) = refl
    of_definition scope (def.Array d) = refl
    of_definition scope (def.Struct d) = refl
    of_definition scope (def.Enum d) = refl
    of_definition scope (def.Port d) = refl
one_port_of (item.Enumerated e) = refl
one_port_of (item.Declared d) = of_model d.scope d.definition
  where
    of_model : (scope : Path) (d : ModelDef) → among group.Port (defined (model_group d) scope (model_name d) ∷ []) ≡ 0
    of_model scope (machine d) = refl
    of_model scope (component d) = refl
    of_model scope (interface d) = refl
    of_model scope (instance d) = refl
    of_model scope (topology d) = refl
one_port_of (item.Used since n) = refl
one_port_of (item.Written since p) = refl

pub port_lies : (source : Source) (scope : Path) (q : Qual) (position : ℕ) → PositionIs source scope group.Port q position → position < length (port_definitions source)
port_lies = position_lies group.Port port_declared one_port_of

-- ---- types

one_type_of : (i : Item) → among group.Kind (definitions_of i) ≡ length (types_of i)
one_type_of (item.Defined s) = of_definition s.scope s.definition
  where
    of_definition : (scope : Path) (d : Def) → among group.Kind (defined (group_of d) scope (name_of d) ∷ []) ≡ length (types_in scope d)
    of_definition scope (def.Constant d) = refl
    of_definition scope (def.Abstract d) = refl
    of_definition scope (def.Alias d) = refl
    of_definition scope (def.Array d) = refl
    of_definition scope (def.Struct d) = refl
    of_definition scope (def.Enum d) = refl
    of_definition scope (def.Port d) = refl
one_type_of (item.Enumerated e) = refl
one_type_of (item.Declared d) = of_model d.scope d.definition
  where
    of_model : (scope : Path) (d : ModelDef) → among group.Kind (defined (model_group d) scope (model_name d) ∷ []) ≡ 0
    of_model scope (machine d) = refl
    of_model scope (component d) = refl
    of_model scope (interface d) = refl
    of_model scope (instance d) = refl
    of_model scope (topology d) = refl
one_type_of (item.Used since n) = refl
one_type_of (item.Written since p) = refl

kinds_alike : (g : Group) → ◌≡◌ {A = ℕ} (cond (is_kind g) 1 0) (cond (same_group group.Kind g) 1 0)
kinds_alike group.Kind = refl
kinds_alike group.Value = refl
kinds_alike group.Port = refl
kinds_alike group.Component = refl
kinds_alike group.Instance = refl
kinds_alike group.Topology = refl
kinds_alike group.Machine = refl
kinds_alike group.Interface = refl

types_alike : (ds : List Definition) → types_among ds ≡ among group.Kind ds
types_alike [] = refl
types_alike (d ∷ ds) = let here = kinds_alike d.group in let rest = types_alike ds in omega (arith, here, rest)

pub type_lies : (source : Source) (scope : Path) (q : Qual) (number : ℕ) → Means (definitions source) scope (names_of q) group.Kind number → types_before (definitions source) number < length (types source)
type_lies source scope q number h =
    let lies = position_lies group.Kind types_of one_type_of source scope q (before group.Kind (definitions source) number) (number, h, refl) in
    let same = types_alike (take number (definitions source)) in
    omega (arith, lies, same)
