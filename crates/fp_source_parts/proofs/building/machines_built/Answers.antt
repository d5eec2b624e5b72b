use Rattle.std.proofs.Common.{◌≡◌, length, slice_get, Some, refl}
use Rattle.std.proofs.lemmas.Option.{slice_get_read}
use Rattle.fp_source_parts.proofs.Giving.{all_given, next_given, none_given}
use Rattle.fp_source_parts.proofs.building.machines_built.Goals as goal

pub loop-index-init : goal.loop-index-init
loop-index-init c = none_given c.args.marks.now c.args.resolutions.now c.args.items.now c.new-machines.result c.new-machines.ensures

pub loop-index-preserved : goal.loop-index-preserved
loop-index-preserved c =
    let all = c.args.items.now in
    let n = c.loop-index.index in
    let one = c.index-items-index.result in
    let at : slice_get all n ≡ Some one = slice_get_read all (length all) n one refl c.loop-index-test.true c.index-items-index.is in
    next_given c.args.marks.now c.args.resolutions.now all n one c.loop-index.machines c.in_ok-machines.machines c.in_ok-one.one at c.in_ok-machines.ensures c.loop-index.invariant c.in_ok-one.ensures.made c.in_ok-one.ensures.short

pub returns-clause-made : goal.returns-clause-made
returns-clause-made c = all_given c.args.marks.now c.args.resolutions.now c.args.items.now c.loop-index.index c.loop-index.machines c.loop-index-test.false c.loop-index.invariant.given

pub returns-clause-short : goal.returns-clause-short
returns-clause-short c = c.loop-index.invariant.short
