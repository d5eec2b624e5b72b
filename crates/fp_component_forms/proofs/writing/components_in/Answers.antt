use Rattle.std.proofs.Common.{◌≡◌, length, slice_get, Some, refl}
use Rattle.std.proofs.lemmas.Option.{slice_get_read}
use Rattle.fp_tree.specs.declared.source.Source.{Source}
use Rattle.fp_component_forms.specs.Positions.{ArePositions}
use Rattle.fp_component_forms.specs.Written.{ComponentIs, component_declared}
use Rattle.fp_component_forms.proofs.Lists.{all_given, next_given, none_given}
use Rattle.fp_component_forms.proofs.writing.components_in.Goals as goal

pub loop-index-init : goal.loop-index-init
loop-index-init c =
    none_given ComponentIs component_declared (λ (source : Source). ArePositions source c.args.positions.now) c.args.marks.now c.args.resolutions.now c.args.items.now c.new-written.result c.new-written.ensures

pub loop-index-preserved : goal.loop-index-preserved
loop-index-preserved c =
    let all = c.args.items.now in
    let n = c.loop-index.index in
    let one = c.index-items-index.result in
    let at : slice_get all n ≡ Some one = slice_get_read all (length all) n one refl c.loop-index-test.true c.index-items-index.is in
    next_given ComponentIs component_declared (λ (source : Source). ArePositions source c.args.positions.now) c.args.marks.now c.args.resolutions.now c.args.items.now n one c.loop-index.written c.in_ok-written.written c.in_ok-one.one at c.in_ok-written.ensures c.loop-index.invariant c.in_ok-one.ensures

pub returns : goal.returns
returns c =
    all_given ComponentIs component_declared (λ (source : Source). ArePositions source c.args.positions.now) c.args.marks.now c.args.resolutions.now c.args.items.now c.loop-index.index c.loop-index.written c.loop-index-test.false c.loop-index.invariant
