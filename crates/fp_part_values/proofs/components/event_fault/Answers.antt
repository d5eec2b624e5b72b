use Rattle.std.proofs.Common.{◌++◌, []}
use Rattle.fp_meaning.specs.Layout.{formals_items, value_items}
use Rattle.fp_part_values.specs.Names.{formal_names, written}
use Rattle.fp_part_values.proofs.Joining.{of_formals, then_number}
use Rattle.fp_part_values.proofs.components.event_fault.Goals as goal

pub returns : goal.returns
returns c source scope =
    let e = c.args.event.now in
    then_number source c.args.marks.now c.args.resolutions.now scope (formals_items scope e.formals ++ value_items scope e.id) (value_items scope e.throttle) c.args.next.now c.optional_number-id.new.next c.optional_number-throttle.new.next (formal_names e.formals) (written e.id) e.throttle c.lesser-first.result c.optional_number-throttle.result c.lesser.result c.lesser.ensures
    (then_number source c.args.marks.now c.args.resolutions.now scope (formals_items scope e.formals) (value_items scope e.id) c.args.next.now c.formals_fault-names.new.next c.optional_number-id.new.next (formal_names e.formals) [] e.id c.formals_fault-names.result c.optional_number-id.result c.lesser-first.result c.lesser-first.ensures
    (of_formals source c.args.marks.now c.args.resolutions.now scope c.args.next.now c.formals_fault-names.new.next e.formals c.as_slice-formals.result.now c.formals_fault-names.result c.as_slice-formals.ensures (c.formals_fault-names.ensures source scope)) (c.optional_number-id.ensures source scope)) (c.optional_number-throttle.ensures source scope)
