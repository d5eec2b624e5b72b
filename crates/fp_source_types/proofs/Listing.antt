-- The enumerations among the types are those that items define.
use Rattle.std.proofs.Common.{Contains, sym, subst}
use Rattle.fp_base.proofs.Lists.{each_contained, of_item}
use Rattle.fp_tree.specs.declared.source.Source.{Source}
use Rattle.fp_tree.specs.declared.definition.Def.{Def}
use Rattle.fp_meaning.specs.declared.item.Item.{Item}
use Rattle.fp_meaning.specs.declared.item.Item.TheVariants as item
use Rattle.fp_meaning.specs.Layout.{items}
use Rattle.fp_source_types.specs.Listed.{EnumsHaveConstants, HasConstants, IsListed}
use Rattle.fp_source_types.proofs.Named.{sited}

pub listed_items : (source : Source) → ((i : Item) → Contains (items source) i → IsListed i) → EnumsHaveConstants source
listed_items source each i t at =
    let s = sited source t i at in
    subst (λ (d : Def). HasConstants d) (sym s.definition) (of_item IsListed (items source) s.at (item.Defined s.site) (each_contained IsListed (items source) each) s.here)
