-- What a law on items and names knows of the pieces that files are made of: of names and their uses, of expressions, types and
-- definitions. What it says of what is made of these follows.
use Rattle.std.proofs.Common.{◌≡◌, ℕ, List, ◌∷◌, Option}
use Rattle.std.specs.List.{AllByRecursion as Each}
use Rattle.fp_lexer.specs.declared.token.Token.{Token}
use Rattle.fp_tree.specs.declared.name.Name.{Name}
use Rattle.fp_tree.specs.declared.name.Qual.{Qual}
use Rattle.fp_tree.specs.declared.expression.Expr.{Expr}
use Rattle.fp_tree.specs.declared.type_name.TypeName.{TypeName}
use Rattle.fp_tree.specs.declared.definition.Def.{Def}
use Rattle.fp_tree.specs.declared.machine.Machine.{Machine}
use Rattle.fp_tree.specs.declared.component.Component.{Component}
use Rattle.fp_tree.specs.declared.component.Interface.{Interface}
use Rattle.fp_tree.specs.declared.instance.Instance.{Instance}
use Rattle.fp_tree.specs.declared.topology.PortUse.{PortUse}
use Rattle.fp_tree.specs.declared.topology.Topology.{Topology}
use Rattle.fp_meaning.specs.declared.group.Group.{Group}
use Rattle.fp_meaning.specs.declared.item.Item.{Item}
use Rattle.fp_meaning.specs.declared.item.Item.TheVariants as item
use Rattle.fp_meaning.specs.Sites.{Path, in_optional, ModelDef, machine, component, interface, instance, topology, declaration, naming, port_naming}
use Rattle.fp_meaning.specs.Layout.{expression_items, type_items, items_in, use_items, value_items}
use Rattle.fp_meaning.specs.Names.{model_name}
use Rattle.fp_grammar.specs.Grammar.{Grammar, after}
use Rattle.fp_grammar.specs.Grammar.Grammar.{optional}
use Rattle.fp_parse_pieces.specs.Kinds.{kind}
use Rattle.fp_parse_pieces.specs.Words.{name, qual}
use Rattle.fp_parse_defs.specs.Language.{expression}
use Rattle.fp_parse_defs.specs.Definitions.{definition, noted_definition, type_name}
use Rattle.fp_parse_states.specs.Nested.{machine as machine_spelled}
use Rattle.fp_parse_components.specs.Components.{component as component_spelled, interface as interface_spelled}
use Rattle.fp_parse_topologies.specs.Instances.{component_instance}
use Rattle.fp_parse_topologies.specs.Topologies.{topology as topology_spelled}
use Rattle.fp_places.specs.Parts.{names_in_expression, names_in_type, names_in_definition}
use Rattle.fp_places.proofs.Preserving.{Gives, gives_less, gives_optional, gives_after}
use Rattle.fp_places.proofs.Held.{Held, held_behind, held_named, held_option}

-- what is known of what belongs to a machine, a component, an interface, an instance or a topology
abbrev pub Belonging : (Machine → Type 0) → (Component → Type 0) → (Interface → Type 0) → (Instance → Type 0) → (Topology → Type 0) → ModelDef → Type 0
Belonging M C I N T (machine m) = M m
Belonging M C I N T (component c) = C c
Belonging M C I N T (interface i) = I i
Belonging M C I N T (instance n) = N n
Belonging M C I N T (topology t) = T t

pub record Known (depth : ℕ) : Type 1 where
  -- what is said of a token, of an item and of a name
  pub OfToken : Token → Type 0
  pub OfItem : Item → Type 0
  pub OfName : Name → Type 0
  -- what is known of names and qualified names that stand in a file
  pub Naming : Name → Type 0
  pub Using : Qual → Type 0
  pub naming_given : Gives kind OfToken name Naming
  pub using_given : Gives kind OfToken qual Using
  pub named : (n : Name) → Naming n → OfName n
  pub all_named : (q : Qual) → Using q → Each OfName q.names
  -- what is known of machines, components, interfaces, instances and topologies, and of what belongs to these, beside names and items
  pub OfMachine : Machine → Type 0
  pub OfComponent : Component → Type 0
  pub OfInterface : Interface → Type 0
  pub OfInstance : Instance → Type 0
  pub OfTopology : Topology → Type 0
  pub machines_given : Gives kind OfToken (machine_spelled depth) (λ (m : Machine). (note : List ℕ) → OfMachine (record m { note = note }))
  pub components_given : Gives kind OfToken (component_spelled depth) (λ (c : Component). (note : List ℕ) → OfComponent (record c { note = note }))
  pub interfaces_given : Gives kind OfToken (interface_spelled depth) (λ (i : Interface). (note : List ℕ) → OfInterface (record i { note = note }))
  pub instances_given : Gives kind OfToken (component_instance depth) (λ (i : Instance). (note : List ℕ) → OfInstance (record i { note = note }))
  pub topologies_given : Gives kind OfToken (topology_spelled depth) (λ (t : Topology). (note : List ℕ) → OfTopology (record t { note = note }))
  -- what is said of items that are names
  pub declared : (scope : Path) (d : ModelDef) → Naming (model_name d) → Belonging OfMachine OfComponent OfInterface OfInstance OfTopology d → OfItem (item.Declared (declaration scope d))
  pub used : (group : Group) (scope : Path) (q : Qual) → Using q → OfItem (item.Used 0 (naming group scope q))
  pub port_used : (scope : Path) (u : PortUse) → u.at.first ≡ u.of.at.first → Using u.of → OfItem (item.Used 0 (port_naming scope u))
  -- and of those of expressions, types and definitions
  pub expressions_given : Gives kind OfToken (expression depth) (λ (e : Expr). Held OfItem OfName (λ scope. expression_items 0 scope e) (names_in_expression e))
  pub types_given : Gives kind OfToken (type_name depth) (λ (t : TypeName). Held OfItem OfName (λ scope. type_items 0 scope t) (names_in_type t))
  pub definitions_given : Gives kind OfToken (definition depth)
      (λ (d : Def). (note : List ℕ) → Held OfItem OfName (λ scope. items_in scope (noted_definition d note)) (names_in_definition (noted_definition d note)))

module _ {depth : ℕ} (law : Known depth) where
  -- the grammar gives nodes of which Q holds to such tokens
  abbrev pub Yields : {X : Type 0} → Grammar Token X → (X → Type 0) → Type 0
  Yields g Q = Gives kind law.OfToken g Q

  -- it is said of these items, in any scope, and of these names
  abbrev pub Says : (Path → List Item) → List Name → Type 0
  Says found written = Held law.OfItem law.OfName found written

  pub declares : {f : Path → List Item} {ns : List Name} (d : ModelDef) → law.Naming (model_name d) → Belonging law.OfMachine law.OfComponent law.OfInterface law.OfInstance law.OfTopology d → Says f ns
      → Says (λ scope. item.Declared (declaration scope d) ∷ f scope) (model_name d ∷ ns)
  declares d h b k = held_behind (λ scope. law.declared scope d h b) (held_named (law.named (model_name d) h) k)

  pub uses : (group : Group) (q : Qual) → law.Using q → Says (λ scope. use_items group scope q) q.names
  uses group q h = record { items = λ scope. (law.used group scope q h, tt); names = law.all_named q h }

  abbrev pub ValueSaid : Expr → Type 0
  ValueSaid e = Says (λ scope. expression_items 0 scope e) (names_in_expression e)

  -- of an expression that may be left out
  abbrev pub MaybeSaid : Option Expr → Type 0
  MaybeSaid o = Says (λ scope. value_items scope o) (in_optional names_in_expression o)

  pub maybe_given : {a : Grammar Token Expr} → Yields a ValueSaid → Yields (optional a) MaybeSaid
  maybe_given given = gives_less MaybeSaid (held_option (expression_items 0) names_in_expression) (gives_optional given)

  -- behind a word
  pub value_given : (k : ℕ) → Yields (optional (after k (expression depth))) MaybeSaid
  value_given k = maybe_given (gives_after k law.expressions_given)

  abbrev pub TypeSaid : TypeName → Type 0
  TypeSaid t = Says (λ scope. type_items 0 scope t) (names_in_type t)
