use Rattle.std.proofs.Common.{Some, ap, ap₂, sym, ◌∙◌}
use Rattle.fp_tables.specs.Tops.{larger}
use Rattle.fp_tables.proofs.Largest.{largest_more}
use Rattle.fp_tables.proofs.tops.largest_of.Goals as goal

pub loop-item-preserved : goal.loop-item-preserved
loop-item-preserved g c =
    c.larger-top.ensures ∙ ap₂ larger c.loop-item.invariant (ap Some c.number.ensures)
    ∙ sym (largest_more g.T.Numbered.number_of c.args.items.now c.loop-item.item-index c.item-item.result c.loop-item-test.true c.item-item.is)
