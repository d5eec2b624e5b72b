use Rattle.std.proofs.Common.{◌≡◌, Some, length, slice_get, refl}
use Rattle.std.proofs.lemmas.Option.{slice_get_read}
use Rattle.fp_base.proofs.Elements.{least_first_none, least_next, least_of_all}
use Rattle.fp_component_rules.specs.Broken.{ComponentBroken}
use Rattle.fp_component_rules.proofs.faults.each_component_fault.Goals as goal

pub loop-component-init : goal.loop-component-init
loop-component-init c fs gifts within = least_first_none (ComponentBroken fs) c.args.components.now

pub loop-component-preserved : goal.loop-component-preserved
loop-component-preserved c fs gifts within =
    let all = c.args.components.now in
    let n = c.loop-component.component-index in
    let x = c.component-item.result in
    let at : slice_get all n ≡ Some x = slice_get_read all (length all) n x refl c.loop-component-test.true c.component-item.is in
    least_next (ComponentBroken fs) all n x c.loop-component.first c.lesser-first.result c.in_ok-fault.fault at c.lesser-first.ensures
    (c.in_ok-fault.ensures fs gifts (within n x at)) (c.loop-component.invariant fs gifts within)

pub returns : goal.returns
returns c fs gifts within =
    least_of_all (ComponentBroken fs) c.args.components.now c.loop-component.component-index c.loop-component.first c.loop-component-test.false (c.loop-component.invariant fs gifts within)
