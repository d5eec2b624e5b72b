use Rattle.std.proofs.Common.{◌≡◌, length, slice_get, Some, refl}
use Rattle.std.proofs.lemmas.Option.{slice_get_read}
use Rattle.fp_component_forms.proofs.Lists.{EachIs}
use Rattle.fp_meaning.specs.Layout.{target_items}
use Rattle.fp_type_forms.proofs.Taking.{taken_as}
use Rattle.fp_topology_forms.specs.Written.{TargetIs}
use Rattle.fp_topology_forms.proofs.Growing.{all_grown, next_grown, none_each, none_grown, one_more}
use Rattle.fp_topology_forms.proofs.patterns.listed_taken.Goals as goal

pub loop-target-init : goal.loop-target-init
loop-target-init c source scope marks ready =
    none_grown (EachIs (TargetIs source scope)) (target_items scope) source marks c.args.resolutions.now c.args.targets.now c.args.next.now c.args.next.now c.new-row.result refl
    (none_each (TargetIs source scope) c.new-row.result c.new-row.ensures)

pub loop-target-preserved : goal.loop-target-preserved
loop-target-preserved c source scope marks ready =
    let all = c.args.targets.now in
    let n = c.loop-target.target-index in
    let x = c.target-item.result in
    let at : slice_get all n ≡ Some x = slice_get_read all (length all) n x refl c.loop-target-test.true c.target-item.is in
    next_grown (EachIs (TargetIs source scope)) (target_items scope) source marks c.args.resolutions.now all n x c.args.next.now c.loop-target.next _ c.loop-target.row c.in_ok-row.row at (c.loop-target.invariant source scope marks ready)
    (taken_as source marks c.args.resolutions.now (target_items scope x) c.loop-target.next _ (one_more (TargetIs source scope) x c.used_taken-one.result c.loop-target.row c.in_ok-row.row c.in_ok-row.ensures)
    (c.used_taken-one.ensures source marks scope x.of ready refl))

pub returns : goal.returns
returns c source scope marks ready =
    all_grown (EachIs (TargetIs source scope)) (target_items scope) source marks c.args.resolutions.now c.args.targets.now c.loop-target.target-index c.args.next.now c.loop-target.next c.loop-target.row
    c.loop-target-test.false (c.loop-target.invariant source scope marks ready)
