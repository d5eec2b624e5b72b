-- What the expressions of phases break is broken at places of their source.
use Rattle.std.specs.List.{AllByRecursion as Each}
use Rattle.fp_base.specs.declared.place.Place.{Place}
use Rattle.fp_base.specs.declared.refusal.Refusal.{Refusal}
use Rattle.fp_base.specs.declared.rule.Rule.TheVariants.{FloatUsed}
use Rattle.fp_base.specs.Least.{broken_at}
use Rattle.fp_base.proofs.Lists.{of_item}
use Rattle.fp_tree.specs.declared.source.Source.{Source}
use Rattle.fp_tree.specs.declared.expression.Expr.{Expr}
use Rattle.fp_tree.specs.declared.instance.Phase.{Phase}
use Rattle.fp_meaning.specs.declared.item.Item.{Item}
use Rattle.fp_meaning.specs.declared.item.Item.TheVariants as item
use Rattle.fp_meaning.specs.Layout.{items}
use Rattle.fp_meaning.specs.Sites.{ModelDef, component, instance, interface, machine, topology}
use Rattle.fp_part_values.specs.Phases.{BrokenByDefinition, BrokenByItem, BrokenByPhase, HasFloat, PhasesBroken, itself, within}
use Rattle.fp_places.specs.Places.{places_in_phase, places_of_model}
use Rattle.fp_places.proofs.Expressions.{StandIn}
use Rattle.fp_places.proofs.Definitions.{StandOf}
use Rattle.fp_source_laws.proofs.Expressions.{first_of, part_placed}
use Rattle.fp_source_laws.proofs.Parted.{same_place, split}

module _ (G : Place → Type 0) where
  float_placed : (e : Expr) (place : Place) → StandIn G e → HasFloat e place → G place
  float_placed e place h (itself is) = first_of G e h
  float_placed e place h (within {part = part} k at float) = float_placed part place (part_placed G e part k h at) float

  phase_placed : (p : Phase) (f : Refusal) → Each G (places_in_phase p) → BrokenByPhase p f → G f.place
  phase_placed p f h (place, float, same) = same_place G f (broken_at FloatUsed place) same (float_placed p.phase place h float)

  model_placed : (d : ModelDef) (f : Refusal) → Each G (places_of_model d) → BrokenByDefinition d f → G f.place
  model_placed (instance d) f h (k, p, at, b) = phase_placed p f (of_item (λ (x : Phase). Each G (places_in_phase x)) d.phases k p (split G places_in_phase d.phases h) at) b
  model_placed (machine d) f h b = absurd b
  model_placed (component d) f h b = absurd b
  model_placed (interface d) f h b = absurd b
  model_placed (topology d) f h b = absurd b

  item_placed : (i : Item) (f : Refusal) → StandOf G i → BrokenByItem i f → G f.place
  item_placed (item.Defined s) f h b = absurd b
  item_placed (item.Enumerated e) f h b = absurd b
  item_placed (item.Declared d) f h b = model_placed d.definition f h.1 b
  item_placed (item.Used since n) f h b = absurd b
  item_placed (item.Written since p) f h b = absurd b

  pub phases_placed : (source : Source) → Each (StandOf G) (items source) → (f : Refusal) → PhasesBroken source f → G f.place
  phases_placed source all f (k, i, at, b) = item_placed i f (of_item (StandOf G) (items source) k i all at) b
