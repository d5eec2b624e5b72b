-- The places in definitions at which rules of constants, types, formats, components, state machines and topologies can be broken: of names
-- that are defined, of types, of expressions and of the expressions and members that these are made of, of formats, of the parts of
-- components and interfaces, of the elements of machines and of each signal, action, guard, state or choice that is named in one, of the
-- phases of instances, and of the members of topologies, of their connections and of the instances and ports that these name.
-- FPP Language Specification, "Definitions", "Expressions", "Type Names", "Component Definitions", "Interface Definitions", "State Machine
-- Definitions", "State Machine Behavior Elements", "Component Instance Definitions", "Init Specifiers", "Topology Definitions", "Component
-- Instance Specifiers" and "Connection Graph Specifiers".
use Rattle.std.specs.Prelude.{List, [], ◌∷◌, ◌++◌, flat_map, map, Option}
use Rattle.fp_base.specs.declared.place.Place.{Place}
use Rattle.fp_base.specs.declared.place.Span.{Span}
use Rattle.fp_tree.specs.declared.name.Name.{Name}
use Rattle.fp_tree.specs.declared.name.Str.{Str}
use Rattle.fp_tree.specs.declared.expression.Expr.{Expr, Expr-F, fold-Expr}
use Rattle.fp_tree.specs.declared.expression.Form.{Form, Form-F, fold-Form}
use Rattle.fp_tree.specs.declared.expression.Form.TheOpen as form
use Rattle.fp_tree.specs.declared.expression.Assignment.{Assignment, Assignment-F, fold-Assignment}
use Rattle.fp_tree.specs.declared.type_name.TypeName.{TypeName}
use Rattle.fp_tree.specs.declared.type_name.TypeForm.{TypeForm}
use Rattle.fp_tree.specs.declared.type_name.TypeForm.TheVariants as type
use Rattle.fp_tree.specs.declared.part.EnumConst.{EnumConst}
use Rattle.fp_tree.specs.declared.part.Field.{Field}
use Rattle.fp_tree.specs.declared.part.Formal.{Formal}
use Rattle.fp_tree.specs.declared.definition.Def.{Def}
use Rattle.fp_tree.specs.declared.definition.Def.TheVariants as def
use Rattle.fp_tree.specs.declared.dictionary.Limit.{Limit}
use Rattle.fp_tree.specs.declared.dictionary.Limits.{Limits}
use Rattle.fp_tree.specs.declared.machine.ActionUse.{ActionUse}
use Rattle.fp_tree.specs.declared.machine.Do.{Do}
use Rattle.fp_tree.specs.declared.machine.Goto.{Goto}
use Rattle.fp_tree.specs.declared.machine.Transition.{Transition}
use Rattle.fp_tree.specs.declared.machine.Transition.TheVariants as way
use Rattle.fp_tree.specs.declared.machine.Choice.{Choice}
use Rattle.fp_tree.specs.declared.machine.OnSignal.{OnSignal}
use Rattle.fp_tree.specs.declared.machine.ElementForm.{ElementForm}
use Rattle.fp_tree.specs.declared.machine.ElementForm.TheVariants as element
use Rattle.fp_tree.specs.declared.machine.BehaviorElement.{BehaviorElement}
use Rattle.fp_tree.specs.declared.machine.Behavior.{Behavior}
use Rattle.fp_tree.specs.declared.machine.TypedName.{TypedName}
use Rattle.fp_tree.specs.declared.component.General.{General}
use Rattle.fp_tree.specs.declared.component.Special.{Special}
use Rattle.fp_tree.specs.declared.component.Part.{Part}
use Rattle.fp_tree.specs.declared.component.Part.TheVariants as part
use Rattle.fp_tree.specs.declared.component.InterfacePart.{InterfacePart}
use Rattle.fp_tree.specs.declared.component.InterfacePart.TheVariants as interface_part
use Rattle.fp_tree.specs.declared.instance.Phase.{Phase}
use Rattle.fp_tree.specs.declared.topology.Connection.{Connection}
use Rattle.fp_tree.specs.declared.topology.Target.{Target}
use Rattle.fp_tree.specs.declared.topology.TMember.{TMember}
use Rattle.fp_tree.specs.declared.topology.TMember.TheVariants as topology_member
use Rattle.fp_meaning.specs.Names.{model_name}
use Rattle.fp_meaning.specs.Sites.{in_optional, ModelDef, machine, component, interface, instance, topology}
use Rattle.fp_meaning.specs.declared.item.Item.{Item}
use Rattle.fp_meaning.specs.declared.item.Item.TheVariants as item

abbrev pub places_of_form : Form-F (List Place) (List Place) (List Place) → List Place
places_of_form (form.Minus operand) = operand
places_of_form (form.Parentheses inner) = inner
places_of_form (form.Binary operator left right) = left ++ right
places_of_form (form.Array items) = flat_map (λ places. places) items
places_of_form (form.Struct members) = flat_map (λ places. places) members
places_of_form _ = []

abbrev pub places_of_assignment : Assignment-F (List Place) (List Place) (List Place) → List Place
places_of_assignment a = a.name.at.first ∷ a.value

abbrev pub places_of_expression : Expr-F (List Place) (List Place) (List Place) → List Place
places_of_expression e = e.at.first ∷ e.form

-- of an expression and of what it is made of
abbrev pub places_in_expression : Expr → List Place
places_in_expression e = fold-Expr (List Place) (List Place) (List Place) places_of_form places_of_assignment places_of_expression e

abbrev pub places_in_form : Form → List Place
places_in_form f = fold-Form (List Place) (List Place) (List Place) places_of_form places_of_assignment places_of_expression f

abbrev pub places_in_assignment : Assignment → List Place
places_in_assignment a = fold-Assignment (List Place) (List Place) (List Place) places_of_form places_of_assignment places_of_expression a

abbrev pub places_in_type_form : TypeForm → List Place
places_in_type_form (type.Text size) = in_optional places_in_expression size
places_in_type_form _ = []

abbrev pub places_in_type : TypeName → List Place
places_in_type t = t.at.first ∷ places_in_type_form t.form

abbrev pub places_in_format : Str → List Place
places_in_format s = s.at.first ∷ []

abbrev pub places_in_field : Field → List Place
places_in_field f = f.name.at.first ∷ (in_optional places_in_expression f.size ++ places_in_type f.of ++ in_optional places_in_format f.format)

abbrev pub places_in_constant : EnumConst → List Place
places_in_constant c = c.name.at.first ∷ in_optional places_in_expression c.value

abbrev pub places_in_formal : Formal → List Place
places_in_formal f = f.name.at.first ∷ places_in_type f.of

abbrev pub places_in_definition : Def → List Place
places_in_definition (def.Constant d) = d.name.at.first ∷ places_in_expression d.value
places_in_definition (def.Abstract d) = d.name.at.first ∷ []
places_in_definition (def.Alias d) = d.name.at.first ∷ places_in_type d.target
places_in_definition (def.Array d) =
    d.name.at.first ∷ (places_in_expression d.size ++ places_in_type d.element ++ in_optional places_in_expression d.default ++ in_optional places_in_format d.format)
places_in_definition (def.Struct d) = d.name.at.first ∷ (flat_map places_in_field d.fields ++ in_optional places_in_expression d.default)
places_in_definition (def.Enum d) =
    d.name.at.first ∷ (in_optional places_in_type d.repr ++ flat_map places_in_constant d.constants ++ in_optional places_in_expression d.default)
places_in_definition (def.Port d) = d.name.at.first ∷ (flat_map places_in_formal d.formals ++ in_optional places_in_type d.result)

-- ---- what belongs to components and interfaces

-- where the first word stands that speaks of the queue
abbrev pub places_of_word : Option Span → List Place
places_of_word word = in_optional (λ (s : Span). s.first ∷ []) word

abbrev pub places_in_value : Option Expr → List Place
places_in_value o = in_optional places_in_expression o

abbrev pub places_in_formals : List Formal → List Place
places_in_formals fs = flat_map places_in_formal fs

abbrev pub places_in_general : General → List Place
places_in_general p = p.at.first ∷ p.name.at.first ∷ (places_in_value p.size ++ places_in_value p.priority ++ places_of_word p.queue_word)

abbrev pub places_in_special : Special → List Place
places_in_special p = p.at.first ∷ p.name.at.first ∷ []

abbrev pub places_in_limit : Limit → List Place
places_in_limit l = l.at.first ∷ places_in_expression l.value

abbrev pub places_in_limits : Limits → List Place
places_in_limits ls = flat_map places_in_limit ls.limits

-- a definition or a machine inside a component is an item of its own
abbrev pub places_in_part : Part → List Place
places_in_part (part.Def d) = []
places_in_part (part.Machine m) = []
places_in_part (part.General p) = places_in_general p
places_in_part (part.Special p) = places_in_special p
places_in_part (part.Internal p) = p.at.first ∷ p.name.at.first ∷ (places_in_formals p.formals ++ places_in_value p.priority ++ places_of_word p.queue_word)
places_in_part (part.Command c) =
    c.at.first ∷ c.name.at.first ∷ (places_in_formals c.formals ++ places_in_value c.opcode ++ places_in_value c.priority ++ places_of_word c.queue_word)
places_in_part (part.Event e) = e.name.at.first ∷ e.format.at.first ∷ (places_in_formals e.formals ++ places_in_value e.id ++ places_in_value e.throttle)
places_in_part (part.Channel t) =
    t.name.at.first ∷ (places_in_type t.of ++ places_in_value t.id ++ in_optional places_in_format t.format ++ in_optional places_in_limits t.low
    ++ in_optional places_in_limits t.high)
places_in_part (part.Param p) =
    p.name.at.first ∷ (places_in_type p.of ++ places_in_value p.default ++ places_in_value p.id ++ places_in_value p.set ++ places_in_value p.save)
places_in_part (part.Match m) = m.at.first ∷ []
places_in_part (part.Running r) = r.at.first ∷ r.name.at.first ∷ (places_in_value r.priority ++ places_of_word r.queue_word)
places_in_part (part.Import i) = i.at.first ∷ []
places_in_part (part.Include i) = i.at.first ∷ []

abbrev pub places_in_interface_part : InterfacePart → List Place
places_in_interface_part (interface_part.General p) = places_in_general p
places_in_interface_part (interface_part.Special p) = places_in_special p
places_in_interface_part (interface_part.Import i) = i.at.first ∷ []

-- ---- what belongs to machines

abbrev pub places_in_do : Do → List Place
places_in_do d = map (λ (a : ActionUse). a.name.at.first) d.actions

abbrev pub places_in_goto : Goto → List Place
places_in_goto g = in_optional places_in_do g.actions ++ g.target.at.first ∷ []

abbrev pub places_in_transition : Transition → List Place
places_in_transition (way.Goto g) = places_in_goto g
places_in_transition (way.Do d) = places_in_do d

abbrev pub places_in_choice : Choice → List Place
places_in_choice c = c.name.at.first ∷ c.guard.at.first ∷ (places_in_goto c.met ++ places_in_goto c.unmet)

abbrev pub places_of_guard : Option Name → List Place
places_of_guard guard = in_optional (λ (n : Name). n.at.first ∷ []) guard

abbrev pub places_in_on_signal : OnSignal → List Place
places_in_on_signal o = o.signal.at.first ∷ (places_of_guard o.guard ++ places_in_transition o.transition)

abbrev pub places_in_typed : TypedName → List Place
places_in_typed t = t.name.at.first ∷ in_optional places_in_type t.of

-- an element stands at its name where it has one, else at its own first byte
abbrev pub places_in_element_form : Span → ElementForm → List Place
places_in_element_form at (element.State n) = n.at.first ∷ []
places_in_element_form at (element.Choice c) = places_in_choice c
places_in_element_form at (element.Initial g) = at.first ∷ places_in_goto g
places_in_element_form at (element.Signal t) = places_in_typed t
places_in_element_form at (element.Action t) = places_in_typed t
places_in_element_form at (element.Guard t) = places_in_typed t
places_in_element_form at (element.On o) = at.first ∷ places_in_on_signal o
places_in_element_form at (element.Entry d) = at.first ∷ places_in_do d
places_in_element_form at (element.Exit d) = at.first ∷ places_in_do d

abbrev pub places_in_element : BehaviorElement → List Place
places_in_element e = places_in_element_form e.at e.form

abbrev pub places_in_behavior : Behavior → List Place
places_in_behavior b = flat_map places_in_element b.elements

-- ---- what belongs to instances

-- of the expression of a phase, which is no item
abbrev pub places_in_phase : Phase → List Place
places_in_phase p = places_in_expression p.phase

-- ---- what belongs to topologies

abbrev pub places_in_connection : Connection → List Place
places_in_connection c = c.at.first ∷ c.from.at.first ∷ c.to.at.first ∷ []

abbrev pub places_in_targets : List Target → List Place
places_in_targets ts = map (λ (t : Target). t.of.at.first) ts

-- the number of a port is an item of its own
abbrev pub places_in_topology_member : TMember → List Place
places_in_topology_member (topology_member.Instance i) = i.at.first ∷ i.of.at.first ∷ []
places_in_topology_member (topology_member.Import i) = i.at.first ∷ []
places_in_topology_member (topology_member.Include i) = i.at.first ∷ []
places_in_topology_member (topology_member.Connections cs) = flat_map places_in_connection cs.connections
places_in_topology_member (topology_member.Pattern p) = p.at.first ∷ p.of.at.first ∷ in_optional places_in_targets p.targets

-- of an instance of a component the expressions of its phases; its other expressions are items of their own
abbrev pub places_of_model : ModelDef → List Place
places_of_model (component c) = flat_map places_in_part c.parts
places_of_model (interface i) = flat_map places_in_interface_part i.parts
places_of_model (machine m) = m.at.first ∷ in_optional places_in_behavior m.behavior
places_of_model (instance i) = flat_map places_in_phase i.phases
places_of_model (topology t) = flat_map places_in_topology_member t.members

-- of what an item stands for
abbrev pub places_of : Item → List Place
places_of (item.Defined s) = places_in_definition s.definition
places_of (item.Enumerated e) = places_in_constant e.constant
places_of (item.Declared d) = (model_name d.definition).at.first ∷ places_of_model d.definition
places_of (item.Used since n) = []
places_of (item.Written since p) = places_in_expression p.expression
