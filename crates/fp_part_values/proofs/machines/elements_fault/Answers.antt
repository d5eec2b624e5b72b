use Rattle.std.proofs.Common.{◌≡◌, [], Some, length, slice_get, flat_map, refl}
use Rattle.std.proofs.lemmas.Option.{slice_get_read}
use Rattle.fp_meaning.specs.Layout.{element_items}
use Rattle.fp_part_values.specs.Names.{element_names}
use Rattle.fp_part_values.proofs.Looping.{none_of_each, faults_none, faults_next, faults_all}
use Rattle.fp_part_values.proofs.machines.elements_fault.Goals as goal

pub loop-element-init : goal.loop-element-init
loop-element-init c source scope = faults_none (element_items scope) element_names (λ x. []) source c.args.marks.now c.args.resolutions.now scope c.args.elements.now c.args.next.now

pub loop-element-preserved : goal.loop-element-preserved
loop-element-preserved c source scope =
    let all = c.args.elements.now in
    let n = c.loop-element.element-index in
    let x = c.element-item.result in
    let at : slice_get all n ≡ Some x = slice_get_read all (length all) n x refl c.loop-element-test.true c.element-item.is in
    faults_next (element_items scope) element_names (λ x. []) source c.args.marks.now c.args.resolutions.now scope all n x c.args.next.now c.loop-element.next c.element_fault-one.new.next c.loop-element.first c.lesser-first.result c.element_fault-one.result at c.lesser-first.ensures
    (c.loop-element.invariant source scope) (c.element_fault-one.ensures source scope)

pub returns : goal.returns
returns c source scope =
    let all = c.args.elements.now in
    faults_all (element_items scope) element_names (λ x. []) source c.args.marks.now c.args.resolutions.now scope all c.loop-element.element-index c.args.next.now c.loop-element.next c.loop-element.first (flat_map element_names all) [] refl (none_of_each (λ x. []) (λ x. refl) all)
    c.loop-element-test.false (c.loop-element.invariant source scope)
