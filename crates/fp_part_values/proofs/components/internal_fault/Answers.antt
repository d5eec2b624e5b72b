use Rattle.std.proofs.Common.{[]}
use Rattle.fp_meaning.specs.Layout.{formals_items, value_items}
use Rattle.fp_part_values.specs.Names.{formal_names}
use Rattle.fp_part_values.proofs.Joining.{of_formals, then_number}
use Rattle.fp_part_values.proofs.components.internal_fault.Goals as goal

pub returns : goal.returns
returns c source scope =
    let p = c.args.port.now in
    then_number source c.args.marks.now c.args.resolutions.now scope (formals_items scope p.formals) (value_items scope p.priority) c.args.next.now c.formals_fault-names.new.next c.optional_number-priority.new.next (formal_names p.formals) [] p.priority c.formals_fault-names.result c.optional_number-priority.result c.lesser.result c.lesser.ensures
    (of_formals source c.args.marks.now c.args.resolutions.now scope c.args.next.now c.formals_fault-names.new.next p.formals c.as_slice-formals.result.now c.formals_fault-names.result c.as_slice-formals.ensures (c.formals_fault-names.ensures source scope)) (c.optional_number-priority.ensures source scope)
