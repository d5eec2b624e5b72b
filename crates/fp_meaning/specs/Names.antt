-- The definitions of a source and the uses of names in it, in source order: what its items define and use. FPP Language Specification,
-- "Definitions", "Names of Definitions".
use Rattle.std.specs.Prelude.{◌≡◌, true, List, [], ◌∷◌, ◌++◌, map, flat_map}
use Rattle.std.specs.List.{list_all}
use Rattle.fp_base.specs.Names.{is_name}
use Rattle.fp_tree.specs.declared.source.Source.{Source}
use Rattle.fp_tree.specs.declared.name.Name.{Name}
use Rattle.fp_tree.specs.declared.name.Qual.{Qual}
use Rattle.fp_tree.specs.declared.definition.Def.{Def}
use Rattle.fp_tree.specs.declared.definition.Def.TheVariants as def
use Rattle.fp_tree.specs.declared.definition.Enum.{Enum}
use Rattle.fp_tree.specs.declared.expression.Expr.{Expr, Expr-F, fold-Expr}
use Rattle.fp_tree.specs.declared.expression.Form.{Form, Form-F, fold-Form}
use Rattle.fp_tree.specs.declared.expression.Form.TheOpen as form
use Rattle.fp_tree.specs.declared.expression.Assignment.{Assignment, Assignment-F, fold-Assignment}
use Rattle.fp_tree.specs.declared.part.EnumConst.{EnumConst}
use Rattle.fp_meaning.specs.declared.group.Group.{Group}
use Rattle.fp_meaning.specs.declared.group.Group.TheVariants.{Kind, Value, Port, Component, Instance, Topology, Machine, Interface}
use Rattle.fp_meaning.specs.declared.item.Item.{Item}
use Rattle.fp_meaning.specs.declared.item.Item.TheVariants as item
use Rattle.fp_meaning.specs.declared.names.Definition.{Definition}
use Rattle.fp_meaning.specs.declared.names.Mention.{Mention}
use Rattle.fp_meaning.specs.Sites.{value_in, ModelDef, machine, component, interface, instance, topology, Naming, naming}
use Rattle.fp_meaning.specs.Layout.{items}
pub use Rattle.fp_meaning.specs.Sites.{Path, in_optional}

abbrev pub group_of : Def → Group
group_of (def.Constant d) = Value
group_of (def.Abstract d) = Kind
group_of (def.Alias d) = Kind
group_of (def.Array d) = Kind
group_of (def.Struct d) = Kind
group_of (def.Enum d) = Kind
group_of (def.Port d) = Port

abbrev pub model_group : ModelDef → Group
model_group (machine d) = Machine
model_group (component d) = Component
model_group (interface d) = Interface
model_group (instance d) = Instance
model_group (topology d) = Topology

abbrev pub model_name : ModelDef → Name
model_name (machine d) = d.name
model_name (component d) = d.name
model_name (interface d) = d.name
model_name (instance d) = d.name
model_name (topology d) = d.name

abbrev pub name_of : Def → Name
name_of (def.Constant d) = d.name
name_of (def.Abstract d) = d.name
name_of (def.Alias d) = d.name
name_of (def.Array d) = d.name
name_of (def.Struct d) = d.name
name_of (def.Enum d) = d.name
name_of (def.Port d) = d.name

-- a definition under its own name in a scope
abbrev pub defined : Group → Path → Name → Definition
defined group scope name = record { group = group; name = scope ++ name.text ∷ []; place = name.at.first }

-- a constant of an enumeration is a value behind the name of the enumeration
abbrev pub constant_of : Path → Enum → EnumConst → Definition
constant_of scope e c = defined Value (scope ++ e.name.text ∷ []) c.name

abbrev pub definitions_of : Item → List Definition
definitions_of (item.Defined s) = defined (group_of s.definition) s.scope (name_of s.definition) ∷ []
definitions_of (item.Enumerated e) = constant_of e.scope e.enumeration e.constant ∷ []
definitions_of (item.Declared d) = defined (model_group d.definition) d.scope (model_name d.definition) ∷ []
definitions_of (item.Used since n) = []
definitions_of (item.Written since p) = []

abbrev pub definitions : Source → List Definition
definitions source = flat_map definitions_of (items source)

abbrev pub mention_of : Naming → Mention
mention_of n = record { group = n.group; scope = n.scope; name = map (λ (x : Name). x.text) n.names; place = n.place }

-- a use in a scope
abbrev pub mentioned : Group → Path → Qual → Mention
mentioned group scope name = mention_of (naming group scope name)

-- the uses in a scope; a name in an expression is a value's
module _ (scope : Path) where
  abbrev pub form_step : Form-F (List Mention) (List Mention) (List Mention) → List Mention
  form_step (form.Use name) = mentioned Value scope name ∷ []
  form_step (form.Minus operand) = operand
  form_step (form.Parentheses inner) = inner
  form_step (form.Binary operator left right) = left ++ right
  form_step (form.Array items) = flat_map (λ uses. uses) items
  form_step (form.Struct members) = flat_map (λ uses. uses) members
  form_step _ = []

  abbrev pub assignment_step : Assignment-F (List Mention) (List Mention) (List Mention) → List Mention
  assignment_step a = a.value

  abbrev pub expression_step : Expr-F (List Mention) (List Mention) (List Mention) → List Mention
  expression_step e = e.form

  abbrev pub in_expression : Expr → List Mention
  in_expression e = fold-Expr (List Mention) (List Mention) (List Mention) form_step assignment_step expression_step e

  abbrev pub in_form : Form → List Mention
  in_form f = fold-Form (List Mention) (List Mention) (List Mention) form_step assignment_step expression_step f

  abbrev pub in_assignment : Assignment → List Mention
  in_assignment a = fold-Assignment (List Mention) (List Mention) (List Mention) form_step assignment_step expression_step a

  abbrev pub in_constant : EnumConst → List Mention
  in_constant c = in_optional in_expression c.value

-- an enumeration is no scope
abbrev pub uses_of : Item → List Mention
uses_of (item.Defined s) = in_optional (in_expression s.scope) (value_in s.definition)
uses_of (item.Enumerated e) = in_constant e.scope e.constant
uses_of (item.Declared d) = []
uses_of (item.Used since n) = mention_of n ∷ []
uses_of (item.Written since p) = in_expression p.scope p.expression

abbrev pub mentions : Source → List Mention
mentions source = flat_map uses_of (items source)

-- each part of what a definition is called is a name
abbrev pub IsMadeOfNames : Definition → Type 0
IsMadeOfNames d = list_all is_name d.name ≡ true
