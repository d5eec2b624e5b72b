-- What type names and numbers in what belongs to definitions break is broken at places of their source.
use Rattle.std.proofs.Common.{List, inl, inr}
use Rattle.std.specs.List.{AllByRecursion as Each}
use Rattle.fp_places.proofs.Expressions.{StandIn}
use Rattle.fp_places.proofs.Definitions.{StandOf, StandInType}
use Rattle.fp_base.specs.declared.place.Place.{Place}
use Rattle.fp_base.specs.declared.refusal.Refusal.{Refusal}
use Rattle.fp_base.proofs.Lists.{of_item}
use Rattle.fp_tree.specs.declared.source.Source.{Source}
use Rattle.fp_tree.specs.declared.expression.Expr.{Expr}
use Rattle.fp_tree.specs.declared.type_name.TypeName.{TypeName}
use Rattle.fp_meaning.specs.declared.item.Item.{Item}
use Rattle.fp_meaning.specs.declared.item.Item.TheVariants as item
use Rattle.fp_meaning.specs.Layout.{items}
use Rattle.fp_meaning.specs.Names.{Path}
use Rattle.fp_part_values.specs.FormBroken.{BrokenAmong, BrokenByDeclaration, PartFormsBroken, scope_inside}
use Rattle.fp_part_values.specs.Names.{type_names_of}
use Rattle.fp_part_values.specs.Numbers.{numbers_of}
use Rattle.fp_source_laws.proofs.Expressions.{first_of}
use Rattle.fp_source_laws.proofs.Parted.{same_place}
use Rattle.fp_source_laws.proofs.PartNames.{model_named}
use Rattle.fp_source_laws.proofs.PartNumbers.{NumbersPlaced, all_numbers}
use Rattle.fp_source_laws.proofs.Types.{name_placed}

module _ (G : Place → Type 0) (source : Source) where
  among_placed : (scope : Path) (names : List TypeName) (numbers : List Expr) (f : Refusal) → Each (StandInType G) names → Each (StandIn G) numbers → BrokenAmong source scope names numbers f → G f.place
  among_placed scope names numbers f h n (inl (k, t, at, b)) = name_placed G source scope t f (of_item (StandInType G) names k t h at) b
  among_placed scope names numbers f h n (inr (k, e, at, b)) = same_place G f _ b.0 (first_of G e (of_item (StandIn G) numbers k e n at))

  item_placed : (i : Item) (f : Refusal) → StandOf G i → NumbersPlaced G i → BrokenByDeclaration source i f → G f.place
  item_placed (item.Defined s) f h n b = absurd b
  item_placed (item.Enumerated e) f h n b = absurd b
  item_placed (item.Declared d) f h n b = among_placed (scope_inside d.scope d.definition) (type_names_of d.definition) (numbers_of d.definition) f (model_named G d.definition h.1) n b
  item_placed (item.Used since m) f h n b = absurd b
  item_placed (item.Written since p) f h n b = absurd b

  pub part_forms_placed : Each (StandOf G) (items source) → (f : Refusal) → PartFormsBroken source f → G f.place
  part_forms_placed all f (k, i, at, b) =
      item_placed i f (of_item (StandOf G) (items source) k i all at) (of_item (NumbersPlaced G) (items source) k i (all_numbers G source all) at) b
