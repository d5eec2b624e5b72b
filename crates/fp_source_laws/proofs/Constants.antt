-- What constants break is broken at places of their source.
use Rattle.std.proofs.Common.{flat_map, Option, Some, None, inl, inr, sym, subst}
use Rattle.std.specs.List.{AllByRecursion as Each}
use Rattle.fp_base.specs.declared.place.Place.{Place}
use Rattle.fp_base.specs.declared.refusal.Refusal.{Refusal}
use Rattle.fp_base.proofs.Lists.{each_flat, each_weaker, of_item}
use Rattle.fp_tree.specs.declared.source.Source.{Source}
use Rattle.fp_tree.specs.declared.expression.Expr.{Expr}
use Rattle.fp_tree.specs.declared.definition.Def.{Def}
use Rattle.fp_tree.specs.declared.definition.Def.TheVariants as def
use Rattle.fp_meaning.specs.declared.group.Group.{Group}
use Rattle.fp_meaning.specs.declared.item.Item.{Item}
use Rattle.fp_meaning.specs.declared.item.Item.TheVariants as item
use Rattle.fp_meaning.specs.declared.names.Definition.{Definition}
use Rattle.fp_meaning.specs.ConstantFaults.{ConstantsBroken}
use Rattle.fp_meaning.specs.Layout.{items}
use Rattle.fp_meaning.specs.Names.{Path, definitions_of}
use Rattle.fp_meaning.specs.Origins.{Placed, expressions_of, expressions, one}
use Rattle.fp_meaning.specs.Sites.{in_optional}
use Rattle.fp_meaning.specs.Uses.{BrokenByChains}
use Rattle.fp_places.specs.Places.{places_in_expression}
use Rattle.fp_places.proofs.Definitions.{StandOf}
use Rattle.fp_places.proofs.Expressions.{StandIn}
use Rattle.fp_source_laws.proofs.Expressions.{broken_placed}

module _ (G : Place → Type 0) where
  abbrev pub PlacedIn : Placed → Type 0
  PlacedIn p = StandIn G p.expression

  optional_placed : (scope : Path) (o : Option Expr) → Each G (in_optional places_in_expression o) → Each PlacedIn (in_optional (one scope) o)
  optional_placed scope None h = tt
  optional_placed scope (Some e) h = (h, tt)

  -- its expressions
  expressions_placed : (i : Item) → StandOf G i → Each PlacedIn (expressions_of i)
  expressions_placed (item.Defined s) h = of_definition s.definition h
    where
      of_definition : (d : Def) → StandOf G (item.Defined (record { scope = s.scope; definition = d })) → Each PlacedIn (expressions_of (item.Defined (record { scope = s.scope; definition = d })))
      of_definition (def.Constant d) k = (k.1, tt)
      of_definition (def.Abstract d) k = tt
      of_definition (def.Alias d) k = tt
      of_definition (def.Array d) k = tt
      of_definition (def.Struct d) k = tt
      of_definition (def.Enum d) k = tt
      of_definition (def.Port d) k = tt
  expressions_placed (item.Enumerated e) h = optional_placed e.scope e.constant.value h.1
  expressions_placed (item.Declared d) h = tt
  expressions_placed (item.Used since n) h = tt
  expressions_placed (item.Written since p) h = (h, tt)

  -- the name that it defines
  names_placed : (i : Item) → StandOf G i → Each (λ (d : Definition). G d.place) (definitions_of i)
  names_placed (item.Defined s) h = of_definition s.definition h
    where
      of_definition : (d : Def) → StandOf G (item.Defined (record { scope = s.scope; definition = d }))
          → Each (λ (x : Definition). G x.place) (definitions_of (item.Defined (record { scope = s.scope; definition = d })))
      of_definition (def.Constant d) k = (k.0, tt)
      of_definition (def.Abstract d) k = (k.0, tt)
      of_definition (def.Alias d) k = (k.0, tt)
      of_definition (def.Array d) k = (k.0, tt)
      of_definition (def.Struct d) k = (k.0, tt)
      of_definition (def.Enum d) k = (k.0, tt)
      of_definition (def.Port d) k = (k.0, tt)
  names_placed (item.Enumerated e) h = (h.0, tt)
  names_placed (item.Declared d) h = (h.0, tt)
  names_placed (item.Used since n) h = tt
  names_placed (item.Written since p) h = tt

  module _ (source : Source) (all : Each (StandOf G) (items source)) where
    pub all_expressions : Each PlacedIn (expressions source)
    all_expressions = each_flat PlacedIn expressions_of (items source) (each_weaker (StandOf G) (λ i. Each PlacedIn (expressions_of i)) expressions_placed (items source) all)

    all_names : Each (λ (d : Definition). G d.place) (flat_map definitions_of (items source))
    all_names =
        each_flat (λ (d : Definition). G d.place) definitions_of (items source)
        (each_weaker (StandOf G) (λ i. Each (λ (d : Definition). G d.place) (definitions_of i)) names_placed (items source) all)

    pub chains_placed : (group : Group) (f : Refusal) → BrokenByChains (items source) group f → G f.place
    chains_placed group f (k, d, there, (same, inl cyclic)) =
        subst (λ (g : Refusal). G g.place) (sym cyclic.0) (of_item (λ (x : Definition). G x.place) (flat_map definitions_of (items source)) k d all_names there)
    chains_placed group f (k, d, there, (same, inr deep)) =
        subst (λ (g : Refusal). G g.place) (sym deep.0) (of_item (λ (x : Definition). G x.place) (flat_map definitions_of (items source)) k d all_names there)

    pub constants_placed : (f : Refusal) → ConstantsBroken source f → G f.place
    constants_placed f (inl (k, p, there, b)) = broken_placed G source p.scope p.expression f (of_item PlacedIn (expressions source) k p all_expressions there) b
    constants_placed f (inr b) = chains_placed _ f b
