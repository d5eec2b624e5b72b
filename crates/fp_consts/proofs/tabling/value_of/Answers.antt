use Rattle.std.proofs.Common.{◌≡◌, Bool, List, Some, false, slice_get, sym, ap, ◌∙◌}
use Rattle.fp_base.proofs.Options.{if_ok_then}
use Rattle.fp_consts.proofs.Tabled.{defined_nowhere, defined_there}
use Rattle.fp_consts.proofs.tabling.value_of.Goals as goal

pub returns-in-Some-item_at : goal.returns-in-Some-item_at
returns-in-Some-item_at c =
    let off : slice_get c.args.chained.now.cyclic.items c.args.number ≡ Some false =
    ap (λ (xs : List Bool). slice_get xs c.args.number) (sym c.as_slice.ensures.value) ∙ c.is_flagged.ensures ∙ ap (λ (b : Bool). Some b) c.if-is_flagged.false in
    if_ok_then c.settled.result _ _
    (λ o settles. defined_there c.args.items.now c.args.laid.now.firsts c.args.laid.now.spots c.args.meanings.now c.args.chained.now.cyclic.items c.args.table.now c.args.number c.in-Some.spot.now off
    c.in-Some.ensures.value c.in-Some-get.first.now c.in-Some-item_at.item.now o c.in-Some-get.ensures.value c.in-Some-item_at.ensures settles)
    c.settled.ensures

pub returns-in-None : goal.returns-in-None
returns-in-None c =
    let off : slice_get c.args.chained.now.cyclic.items c.args.number ≡ Some false =
    ap (λ (xs : List Bool). slice_get xs c.args.number) (sym c.as_slice.ensures.value) ∙ c.is_flagged.ensures ∙ ap (λ (b : Bool). Some b) c.if-is_flagged.false in
    defined_nowhere c.args.items.now c.args.laid.now.firsts c.args.laid.now.spots c.args.meanings.now c.args.chained.now.cyclic.items c.args.table.now c.args.number c.in-Some.spot.now off
    c.in-Some.ensures.value c.in-None.ensures
