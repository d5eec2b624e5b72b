-- What is known of the pieces of a file whose tokens begin at such places: so do the places of its items.
use Rattle.std.proofs.Common.{ℕ, List}
use Rattle.std.specs.List.{AllByRecursion as Each}
use Rattle.fp_base.specs.declared.place.Place.{Place}
use Rattle.fp_tree.specs.declared.definition.Def.{Def}
use Rattle.fp_tree.specs.declared.expression.Expr.{Expr}
use Rattle.fp_tree.specs.declared.type_name.TypeName.{TypeName}
use Rattle.fp_meaning.specs.Layout.{expression_items, type_items, items_in}
use Rattle.fp_meaning.specs.Sites.{ModelDef, machine, component, interface, instance, topology}
use Rattle.fp_parse_defs.specs.Definitions.{noted_definition}
use Rattle.fp_places.specs.Parts.{names_in_expression, names_in_type, names_in_definition}
use Rattle.fp_places.proofs.Preserving.{gives_anything, gives_less}
use Rattle.fp_places.proofs.Held.{Held}
use Rattle.fp_places.proofs.Known.{Known, Belonging}
use Rattle.fp_places.specs.Places.{places_of_model}
use Rattle.fp_places.proofs.Tokens.{Begins, name_yields}
use Rattle.fp_places.proofs.Expressions.{StandIn, expression_yields}
use Rattle.fp_places.proofs.Components.{component_yields, interface_yields}
use Rattle.fp_places.proofs.Machines.{machine_yields}
use Rattle.fp_places.proofs.Instances.{instance_yields}
use Rattle.fp_places.proofs.Topologies.{topology_yields}
use Rattle.fp_places.proofs.Definitions.{StandInType, StandNoted, StandOf, type_placed, type_yields, definition_placed, definition_yields}
use Rattle.fp_places.proofs.Anything.{AnyName, any_names}

module _ (G : Place → Type 0) (depth : ℕ) where
  pub value_held : (e : Expr) → StandIn G e → Held (StandOf G) AnyName (λ scope. expression_items 0 scope e) (names_in_expression e)
  value_held e h = record { items = λ scope. (h, tt); names = any_names (names_in_expression e) }

  pub type_held : (t : TypeName) → StandInType G t → Held (StandOf G) AnyName (λ scope. type_items 0 scope t) (names_in_type t)
  type_held t h = record { items = λ scope. type_placed G 0 scope t h; names = any_names (names_in_type t) }

  abbrev pub DefinitionHeld : Def → Type 0
  DefinitionHeld d = (note : List ℕ) → Held (StandOf G) AnyName (λ scope. items_in scope (noted_definition d note)) (names_in_definition (noted_definition d note))

  pub definition_held : (d : Def) → StandNoted G d → DefinitionHeld d
  definition_held d h note = record { items = λ scope. definition_placed G scope (noted_definition d note) (h note); names = any_names (names_in_definition (noted_definition d note)) }

  pub belonging : (d : ModelDef)
      → Belonging (λ m. Each G (places_of_model (machine m))) (λ c. Each G (places_of_model (component c))) (λ i. Each G (places_of_model (interface i))) (λ n. Each G (places_of_model (instance n))) (λ t. Each G (places_of_model (topology t))) d
      → Each G (places_of_model d)
  belonging (component c) h = h
  belonging (interface i) h = h
  belonging (machine m) h = h
  belonging (instance n) h = h
  belonging (topology t) h = h

  unfoldable pub begun : Known depth
  begun = record {
    OfToken = Begins G;
    OfItem = StandOf G;
    OfName = AnyName;
    Naming = λ n. G n.at.first;
    Using = λ q. Unit {0};
    naming_given = name_yields G;
    using_given = gives_anything;
    named = λ n h. tt;
    all_named = λ q h. any_names q.names;
    OfMachine = λ m. Each G (places_of_model (machine m));
    OfComponent = λ c. Each G (places_of_model (component c));
    OfInterface = λ i. Each G (places_of_model (interface i));
    OfInstance = λ n. Each G (places_of_model (instance n));
    OfTopology = λ t. Each G (places_of_model (topology t));
    machines_given = machine_yields G depth;
    components_given = component_yields G depth;
    interfaces_given = interface_yields G depth;
    instances_given = instance_yields G depth;
    topologies_given = topology_yields G depth;
    declared = λ scope d h b. (h, belonging d b);
    used = λ group scope q h. tt;
    port_used = λ scope u same h. tt;
    expressions_given = gives_less _ value_held (expression_yields G depth);
    types_given = gives_less _ type_held (type_yields G depth);
    definitions_given = gives_less DefinitionHeld definition_held (definition_yields G depth);
  }
