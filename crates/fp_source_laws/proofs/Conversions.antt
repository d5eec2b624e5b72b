-- What values in parts of components break that convert to types is broken at places of their source.
use Rattle.std.proofs.Common.{List, Option, Some, None, inl, inr}
use Rattle.std.specs.List.{AllByRecursion as Each}
use Rattle.fp_base.specs.declared.place.Place.{Place}
use Rattle.fp_base.specs.declared.refusal.Refusal.{Refusal}
use Rattle.fp_base.specs.Least.{ByOptional}
use Rattle.fp_base.proofs.Lists.{of_item}
use Rattle.fp_tree.specs.declared.source.Source.{Source}
use Rattle.fp_tree.specs.declared.expression.Expr.{Expr}
use Rattle.fp_tree.specs.declared.type_name.TypeForm.{TypeForm}
use Rattle.fp_tree.specs.declared.component.Part.{Part}
use Rattle.fp_tree.specs.declared.component.Part.TheVariants as part
use Rattle.fp_tree.specs.declared.dictionary.Limit.{Limit}
use Rattle.fp_tree.specs.declared.dictionary.Limits.{Limits}
use Rattle.fp_tables.specs.declared.kind.Kind.{Kind}
use Rattle.fp_meaning.specs.declared.item.Item.{Item}
use Rattle.fp_meaning.specs.declared.item.Item.TheVariants as item
use Rattle.fp_meaning.specs.Layout.{component_scope, items}
use Rattle.fp_meaning.specs.Names.{Path}
use Rattle.fp_meaning.specs.Sites.{ModelDef, component, in_optional, instance, interface, machine, topology}
use Rattle.fp_type_sizes.specs.declared.written.WrittenType.{WrittenType}
use Rattle.fp_type_forms.specs.Written.{KindIs}
use Rattle.fp_part_values.specs.Broken.{BrokenByDeclared, BrokenByItem, BrokenByLimit, BrokenByLimits, BrokenByPart, IsUnfit, PartValuesBroken}
use Rattle.fp_places.specs.Places.{places_in_limit, places_in_limits, places_in_part, places_in_value, places_of_model}
use Rattle.fp_places.proofs.Expressions.{StandIn}
use Rattle.fp_places.proofs.Definitions.{StandOf}
use Rattle.fp_source_laws.proofs.Expressions.{first_of}
use Rattle.fp_source_laws.proofs.Parted.{PartStands, channel_places, param_places, same_place, split}
use Rattle.fp_source_laws.proofs.Types.{misfit_placed}

module _ (G : Place → Type 0) (source : Source) (ws : List WrittenType) where
  module _ (scope : Path) where
    unfit_placed : (IsWanted : Kind → Type 0) (e : Expr) (f : Refusal) → StandIn G e → IsUnfit source ws scope IsWanted e f → G f.place
    unfit_placed IsWanted e f h (v, k, is, wanted, b) = misfit_placed G ws e.at.first _ _ f (first_of G e h) b

    default_placed : (t : TypeForm) (o : Option Expr) (f : Refusal) → Each G (places_in_value o) → ByOptional (IsUnfit source ws scope (KindIs source scope t)) o f → G f.place
    default_placed t None f h b = absurd b
    default_placed t (Some e) f h b = unfit_placed (KindIs source scope t) e f h b

    limit_placed : (t : TypeForm) (l : Limit) (f : Refusal) → Each G (places_in_limit l) → BrokenByLimit source ws scope t l f → G f.place
    limit_placed t l f h (inl b) = same_place G f _ b.0 (first_of G l.value h.1)
    limit_placed t l f h (inr b) = unfit_placed _ l.value f h.1 b

    side_placed : (t : TypeForm) (o : Option Limits) (f : Refusal) → Each G (in_optional places_in_limits o) → ByOptional (BrokenByLimits source ws scope t) o f → G f.place
    side_placed t None f h b = absurd b
    side_placed t (Some ls) f h (k, l, at, b) = limit_placed t l f (of_item (λ (x : Limit). Each G (places_in_limit x)) ls.limits k l (split G places_in_limit ls.limits h) at) b

    part_placed : (p : Part) (f : Refusal) → PartStands G p → BrokenByPart source ws scope p f → G f.place
    part_placed (part.Channel c) f h (inl b) = side_placed c.of.form c.low f (channel_places G c h).1.1.1.0 b
    part_placed (part.Channel c) f h (inr b) = side_placed c.of.form c.high f (channel_places G c h).1.1.1.1 b
    part_placed (part.Param p) f h b = default_placed p.of.form p.default f (param_places G p h).1.0 b
    part_placed p f h b = absurd b

  model_placed : (scope : Path) (d : ModelDef) (f : Refusal) → Each G (places_of_model d) → BrokenByDeclared source ws scope d f → G f.place
  model_placed scope (component c) f h (k, p, at, b) =
      part_placed (component_scope scope c) p f (of_item (PartStands G) c.parts k p (split G places_in_part c.parts h) at) b
  model_placed scope (machine d) f h b = absurd b
  model_placed scope (interface d) f h b = absurd b
  model_placed scope (instance d) f h b = absurd b
  model_placed scope (topology d) f h b = absurd b

  item_placed : (i : Item) (f : Refusal) → StandOf G i → BrokenByItem ws source i f → G f.place
  item_placed (item.Defined s) f h b = absurd b
  item_placed (item.Enumerated e) f h b = absurd b
  item_placed (item.Declared d) f h b = model_placed d.scope d.definition f h.1 b
  item_placed (item.Used since n) f h b = absurd b
  item_placed (item.Written since p) f h b = absurd b

  pub conversions_placed : Each (StandOf G) (items source) → (f : Refusal) → PartValuesBroken source ws f → G f.place
  conversions_placed all f (k, i, at, b) = item_placed i f (of_item (StandOf G) (items source) k i all at) b
