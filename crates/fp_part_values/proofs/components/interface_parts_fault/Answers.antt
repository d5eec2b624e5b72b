use Rattle.std.proofs.Common.{◌≡◌, [], Some, length, slice_get, flat_map, refl}
use Rattle.std.proofs.lemmas.Option.{slice_get_read}
use Rattle.fp_meaning.specs.Layout.{interface_part_items}
use Rattle.fp_part_values.specs.Numbers.{interface_part_numbers}
use Rattle.fp_part_values.proofs.Looping.{none_of_each, faults_none, faults_next, faults_all}
use Rattle.fp_part_values.proofs.components.interface_parts_fault.Goals as goal

pub loop-part-init : goal.loop-part-init
loop-part-init c source scope = faults_none (interface_part_items scope) (λ x. []) interface_part_numbers source c.args.marks.now c.args.resolutions.now scope c.args.parts.now c.args.next.now

pub loop-part-preserved : goal.loop-part-preserved
loop-part-preserved c source scope =
    let all = c.args.parts.now in
    let n = c.loop-part.part-index in
    let x = c.part-item.result in
    let at : slice_get all n ≡ Some x = slice_get_read all (length all) n x refl c.loop-part-test.true c.part-item.is in
    faults_next (interface_part_items scope) (λ x. []) interface_part_numbers source c.args.marks.now c.args.resolutions.now scope all n x c.args.next.now c.loop-part.next c.interface_part_fault-one.new.next c.loop-part.first c.lesser-first.result c.interface_part_fault-one.result at c.lesser-first.ensures
    (c.loop-part.invariant source scope) (c.interface_part_fault-one.ensures source scope)

pub returns : goal.returns
returns c source scope =
    let all = c.args.parts.now in
    faults_all (interface_part_items scope) (λ x. []) interface_part_numbers source c.args.marks.now c.args.resolutions.now scope all c.loop-part.part-index c.args.next.now c.loop-part.next c.loop-part.first [] (flat_map interface_part_numbers all) (none_of_each (λ x. []) (λ x. refl) all) refl
    c.loop-part-test.false (c.loop-part.invariant source scope)
