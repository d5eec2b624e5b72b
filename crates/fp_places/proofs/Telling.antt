-- What is told of tokens is known of the pieces of a file: its items define and use names where tokens begin, and its names are names that
-- tokens have.
use Rattle.std.proofs.Common.{ℕ, List, subst, sym}
use Rattle.fp_base.specs.declared.place.Place.{Place}
use Rattle.fp_tree.specs.declared.name.Name.{Name}
use Rattle.fp_tree.specs.declared.definition.Def.{Def}
use Rattle.fp_tree.specs.declared.expression.Expr.{Expr}
use Rattle.fp_tree.specs.declared.type_name.TypeName.{TypeName}
use Rattle.fp_meaning.specs.Layout.{expression_items, type_items, items_in}
use Rattle.fp_parse_defs.specs.Definitions.{noted_definition}
use Rattle.fp_places.specs.Parts.{names_in_expression, names_in_type, names_in_definition}
use Rattle.fp_places.proofs.Preserving.{gives_anything, gives_less}
use Rattle.fp_places.proofs.Held.{Held}
use Rattle.fp_places.proofs.Known.{Known}
use Rattle.fp_places.proofs.Words.{IsTold, SitedName, SitedQual, name_yields, qual_yields}
use Rattle.fp_places.proofs.SiteDefinitions.{SitedItem, SitedNoted, SitedExpr, SitedType, part_yields, type_yields, definition_yields}

module _ (G : Place → Type 0) (N : Name → Type 0) (depth : ℕ) where
  pub value_held : (e : Expr) → SitedExpr G N depth e → Held (SitedItem G N depth) N (λ scope. expression_items 0 scope e) (names_in_expression e)
  value_held e h = record { items = h.items 0; names = h.names }

  pub type_held : (t : TypeName) → SitedType G N depth t → Held (SitedItem G N depth) N (λ scope. type_items 0 scope t) (names_in_type t)
  type_held t h = record { items = h.items 0; names = h.names }

  abbrev pub DefinitionHeld : Def → Type 0
  DefinitionHeld d = (note : List ℕ) → Held (SitedItem G N depth) N (λ scope. items_in scope (noted_definition d note)) (names_in_definition (noted_definition d note))

  pub definition_held : (d : Def) → SitedNoted G N depth d → DefinitionHeld d
  definition_held d h note = record { items = (h note).items; names = (h note).names }

  unfoldable pub told : Known depth
  told = record {
    OfToken = IsTold G N;
    OfItem = SitedItem G N depth;
    OfName = N;
    Naming = SitedName G N;
    Using = SitedQual G N;
    naming_given = name_yields G N;
    using_given = qual_yields G N;
    named = λ n h. h.named;
    all_named = λ q h. h.named;
    OfMachine = λ m. Unit {0};
    OfComponent = λ c. Unit {0};
    OfInterface = λ i. Unit {0};
    OfInstance = λ i. Unit {0};
    OfTopology = λ t. Unit {0};
    machines_given = gives_less _ (λ m h note. tt) gives_anything;
    components_given = gives_less _ (λ c h note. tt) gives_anything;
    interfaces_given = gives_less _ (λ i h note. tt) gives_anything;
    instances_given = gives_less _ (λ i h note. tt) gives_anything;
    topologies_given = gives_less _ (λ t h note. tt) gives_anything;
    declared = λ scope d h b. record { defines = (h.begins, tt); uses = tt; kept = tt };
    used = λ group scope q h. record { defines = tt; uses = (h.begins, tt); kept = tt };
    port_used = λ scope u same h. record { defines = tt; uses = (subst G (sym same) h.begins, tt); kept = tt };
    expressions_given = gives_less _ value_held (part_yields G N depth);
    types_given = gives_less _ type_held (type_yields G N depth);
    definitions_given = gives_less DefinitionHeld definition_held (definition_yields G N depth);
  }
