-- What is known of the pieces of a file: the machines among its items have their elements in their order, and what they declare outside states.
use Rattle.std.proofs.Common.{ℕ, List, [], ◌∷◌}
use Rattle.std.specs.List.{AllByRecursion as Each}
use Rattle.fp_tree.specs.declared.definition.Def.{Def}
use Rattle.fp_tree.specs.declared.expression.Expr.{Expr}
use Rattle.fp_tree.specs.declared.type_name.TypeName.{TypeName}
use Rattle.fp_meaning.specs.declared.item.Item.{Item}
use Rattle.fp_meaning.specs.declared.item.Item.TheVariants as item
use Rattle.fp_meaning.specs.Sites.{Path, ModelDef, machine, component, interface, instance, topology}
use Rattle.fp_meaning.specs.Layout.{expression_items, type_items, items_in, part_items}
use Rattle.fp_meaning.proofs.Since.{AllSince, since_form}
use Rattle.fp_parse_defs.specs.Definitions.{noted_definition}
use Rattle.fp_base.proofs.Lists.{each_weaker}
use Rattle.fp_places.specs.Parts.{names_in_expression, names_in_type, names_in_definition}
use Rattle.fp_places.proofs.Preserving.{gives_anything, gives_less}
use Rattle.fp_places.proofs.Held.{Held}
use Rattle.fp_places.proofs.Known.{Known, Belonging}
use Rattle.fp_places.proofs.Anything.{AnyName, AnyToken, any_names}
use Rattle.fp_source_parts.specs.Ordered.{IsOrdered, IsOrderedModel}
use Rattle.fp_type_forms.proofs.Following.{IsPart, are_parts}
use Rattle.fp_source_laws.proofs.MachinesOrdered.{HasOrderedElements, machine_yields}

-- what stands in a definition is no machine
part_ordered : (i : Item) → IsPart i → IsOrdered i
part_ordered (item.Defined s) is = absurd is
part_ordered (item.Enumerated e) is = tt
part_ordered (item.Declared d) is = absurd is
part_ordered (item.Used since n) is = tt
part_ordered (item.Written since p) is = tt

pub definition_ordered : (scope : Path) (d : Def) → Each IsOrdered (items_in scope d)
definition_ordered scope d = (tt, each_weaker IsPart IsOrdered part_ordered (part_items scope d) (are_parts scope d))

-- nor are names and expressions
since_ordered : (since : ℕ) (is : List Item) → AllSince since is → Each IsOrdered is
since_ordered since [] h = tt
since_ordered since (item.Used m n ∷ is) h = (tt, since_ordered since is h.1)
since_ordered since (item.Written m p ∷ is) h = (tt, since_ordered since is h.1)
since_ordered since (item.Defined s ∷ is) h = absurd h
since_ordered since (item.Enumerated e ∷ is) h = absurd h
since_ordered since (item.Declared d ∷ is) h = absurd h

pub value_held : (e : Expr) → Unit {0} → Held IsOrdered AnyName (λ scope. expression_items 0 scope e) (names_in_expression e)
value_held e h = record { items = λ scope. (tt, tt); names = any_names (names_in_expression e) }

pub type_held : (t : TypeName) → Unit {0} → Held IsOrdered AnyName (λ scope. type_items 0 scope t) (names_in_type t)
type_held t h = record { items = λ scope. since_ordered 0 (type_items 0 scope t) (since_form 0 scope t.form); names = any_names (names_in_type t) }

abbrev pub DefinitionHeld : Def → Type 0
DefinitionHeld d = (note : List ℕ) → Held IsOrdered AnyName (λ scope. items_in scope (noted_definition d note)) (names_in_definition (noted_definition d note))

pub definition_held : (d : Def) → Unit {0} → DefinitionHeld d
definition_held d h note = record {
  items = λ scope. definition_ordered scope (noted_definition d note);
  names = any_names (names_in_definition (noted_definition d note));
}

pub belonging : (d : ModelDef) → Belonging HasOrderedElements (λ c. Unit {0}) (λ i. Unit {0}) (λ n. Unit {0}) (λ t. Unit {0}) d → IsOrderedModel d
belonging (machine m) h = h
belonging (component c) h = tt
belonging (interface i) h = tt
belonging (instance i) h = tt
belonging (topology t) h = tt

unfoldable pub ordering : (depth : ℕ) → Known depth
ordering depth = record {
  OfToken = AnyToken;
  OfItem = IsOrdered;
  OfName = AnyName;
  Naming = λ n. Unit {0};
  Using = λ q. Unit {0};
  naming_given = gives_anything;
  using_given = gives_anything;
  named = λ n h. tt;
  all_named = λ q h. any_names q.names;
  OfMachine = HasOrderedElements;
  OfComponent = λ c. Unit {0};
  OfInterface = λ i. Unit {0};
  OfInstance = λ i. Unit {0};
  OfTopology = λ t. Unit {0};
  machines_given = machine_yields depth;
  components_given = gives_less _ (λ c h note. tt) gives_anything;
  interfaces_given = gives_less _ (λ i h note. tt) gives_anything;
  instances_given = gives_less _ (λ i h note. tt) gives_anything;
  topologies_given = gives_less _ (λ t h note. tt) gives_anything;
  declared = λ scope d h b. belonging d b;
  used = λ group scope q h. tt;
  port_used = λ scope u same h. tt;
  expressions_given = gives_less _ value_held gives_anything;
  types_given = gives_less _ type_held gives_anything;
  definitions_given = gives_less DefinitionHeld definition_held gives_anything;
}
