-- What the lexical elements ask of the names in definitions of ports, in components, in interfaces and in state machines. FPP Language
-- Specification, "Lexical Elements", identifiers.
use Rattle.std.specs.Prelude.{◌≡◌, ℕ, Bool, true, ◌&&◌, List, [], Option, None, Some, slice_get}
use Rattle.std.specs.List.{list_all}
use Rattle.fp_base.specs.Names.{is_name}
use Rattle.fp_tree.specs.declared.source.Source.{Source}
use Rattle.fp_tree.specs.declared.definition.Def.{Def}
use Rattle.fp_tree.specs.declared.definition.Def.TheVariants as def
use Rattle.fp_tree.specs.declared.part.Formal.{Formal}
use Rattle.fp_tree.specs.declared.component.Part.{Part}
use Rattle.fp_tree.specs.declared.component.Part.TheVariants as part
use Rattle.fp_tree.specs.declared.component.InterfacePart.{InterfacePart}
use Rattle.fp_tree.specs.declared.component.InterfacePart.TheVariants as interface_part
use Rattle.fp_tree.specs.declared.machine.Behavior.{Behavior}
use Rattle.fp_tree.specs.declared.machine.BehaviorElement.{BehaviorElement}
use Rattle.fp_tree.specs.declared.machine.ElementForm.{ElementForm}
use Rattle.fp_tree.specs.declared.machine.ElementForm.TheVariants as element
use Rattle.fp_meaning.specs.declared.item.Item.{Item}
use Rattle.fp_meaning.specs.declared.item.Item.TheVariants as item
use Rattle.fp_meaning.specs.Layout.{items}
use Rattle.fp_meaning.specs.Sites.{ModelDef, machine, component, interface}

abbrev pub formals_are_named : List Formal → Bool
formals_are_named fs = list_all (λ (f : Formal). is_name f.name.text) fs

-- the parameters of a port
abbrev pub HasNamedFormals : Def → Type 0
HasNamedFormals (def.Port d) = formals_are_named d.formals ≡ true
HasNamedFormals _ = Unit {0}

-- the name of a part of a component, and those of its parameters
abbrev pub part_is_named : Part → Bool
part_is_named (part.General p) = is_name p.name.text
part_is_named (part.Special p) = is_name p.name.text
part_is_named (part.Internal p) = is_name p.name.text && formals_are_named p.formals
part_is_named (part.Command c) = is_name c.name.text && formals_are_named c.formals
part_is_named (part.Event e) = is_name e.name.text && formals_are_named e.formals
part_is_named (part.Channel t) = is_name t.name.text
part_is_named (part.Param p) = is_name p.name.text
part_is_named (part.Running r) = is_name r.name.text
part_is_named _ = true

abbrev pub interface_part_is_named : InterfacePart → Bool
interface_part_is_named (interface_part.General p) = is_name p.name.text
interface_part_is_named (interface_part.Special p) = is_name p.name.text
interface_part_is_named (interface_part.Import i) = true

-- what stands in a machine, which may have no body
abbrev pub elements_in : Option Behavior → List BehaviorElement
elements_in None = []
elements_in (Some b) = b.elements

-- the name of a state or choice, or that of a signal, an action or a guard where it is declared
abbrev pub form_is_named : ElementForm → Bool
form_is_named (element.State n) = is_name n.text
form_is_named (element.Choice c) = is_name c.name.text
form_is_named (element.Signal t) = is_name t.name.text
form_is_named (element.Action t) = is_name t.name.text
form_is_named (element.Guard t) = is_name t.name.text
form_is_named _ = true

abbrev pub elements_are_named : List BehaviorElement → Bool
elements_are_named es = list_all (λ (e : BehaviorElement). form_is_named e.form) es

-- of each part of a component or of an interface, and of each element of a machine
abbrev pub HasNamedParts : ModelDef → Type 0
HasNamedParts (machine m) = elements_are_named (elements_in m.behavior) ≡ true
HasNamedParts (component c) = list_all part_is_named c.parts ≡ true
HasNamedParts (interface i) = list_all interface_part_is_named i.parts ≡ true
HasNamedParts _ = Unit {0}

abbrev pub PartsOfItemAreNamed : Item → Type 0
PartsOfItemAreNamed (item.Defined s) = HasNamedFormals s.definition
PartsOfItemAreNamed (item.Declared d) = HasNamedParts d.definition
PartsOfItemAreNamed _ = Unit {0}

abbrev pub PartsAreNamed : Source → Type 0
PartsAreNamed source = (k : ℕ) (i : Item) → slice_get (items source) k ≡ Some i → PartsOfItemAreNamed i
