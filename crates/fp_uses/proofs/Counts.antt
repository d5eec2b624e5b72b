-- How many counts there are.
use Rattle.std.proofs.Common.{◌≡◌, suc, List, [], ◌∷◌, length, flat_map, refl, ap}
use Rattle.fp_meaning.specs.declared.item.Item.{Item}
use Rattle.fp_meaning.specs.declared.item.Item.TheVariants as item
use Rattle.fp_meaning.specs.Names.{definitions_of}
use Rattle.fp_meaning.specs.Owners.{counts_of}

pub as_many_counts : (is : List Item) → length (flat_map counts_of is) ≡ length (flat_map definitions_of is)
as_many_counts [] = refl
as_many_counts (item.Defined s ∷ is) = ap suc (as_many_counts is)
as_many_counts (item.Enumerated e ∷ is) = ap suc (as_many_counts is)
as_many_counts (item.Declared d ∷ is) = ap suc (as_many_counts is)
as_many_counts (item.Used since n ∷ is) = as_many_counts is
as_many_counts (item.Written since p ∷ is) = as_many_counts is
