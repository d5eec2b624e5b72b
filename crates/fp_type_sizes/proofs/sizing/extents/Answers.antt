use Rattle.std.proofs.Common.{◌≡◌, ◌+◌, List, Option, Some, get_or, slice_get, sym, subst}
use Rattle.std.proofs.lemmas.Option.{slice_get-get_or}
use Rattle.fp_tables.specs.declared.kind.Kind.TheVariants as kind
use Rattle.fp_type_sizes.specs.declared.written.TypeExtent.{TypeExtent}
use Rattle.fp_type_sizes.specs.Sized.{SizedFirst, AreSoundExtents, FindsExtent, MissesNoUse}
use Rattle.fp_type_sizes.proofs.Counted.{sized_next, sized_all}
use Rattle.fp_type_sizes.proofs.sizing.extents.Goals as goal

pub loop-number-preserved : goal.loop-number-preserved
loop-number-preserved c =
    let ws = c.args.types.now in
    let order = c.args.order.now in
    let k = c.loop-number.number-index in
    let table = c.loop-number.table.items in
    let v = get_or order k 0 in
    let at : slice_get order k ≡ Some v = slice_get-get_or order k 0 c.loop-number-test.true in
    let found = subst (λ (xs : List (Option TypeExtent)). AreSoundExtents ws xs → FindsExtent (MissesNoUse ws xs v) ws (kind.Named v) c.written_extent-extent.result) c.as_slice.ensures.value c.written_extent-extent.ensures in
    subst (λ (xs : List (Option TypeExtent)). SizedFirst ws order (k + 1) xs) (sym c.put.ensures)
    (sized_next ws order c.requires.order table k v c.written_extent-extent.result c.loop-number.invariant at (found c.loop-number.invariant.sound))

pub returns : goal.returns
returns c = sized_all c.args.types.now c.args.order.now c.loop-number.table.items c.loop-number.number-index c.requires.order c.loop-number-test.false c.loop-number.invariant
