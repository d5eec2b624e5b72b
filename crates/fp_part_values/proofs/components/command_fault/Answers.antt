use Rattle.std.proofs.Common.{◌++◌, []}
use Rattle.fp_meaning.specs.Layout.{formals_items, value_items}
use Rattle.fp_part_values.specs.Names.{formal_names, written}
use Rattle.fp_part_values.proofs.Joining.{of_formals, then_number}
use Rattle.fp_part_values.proofs.components.command_fault.Goals as goal

pub returns : goal.returns
returns c source scope =
    let d = c.args.command.now in
    then_number source c.args.marks.now c.args.resolutions.now scope (formals_items scope d.formals ++ value_items scope d.opcode) (value_items scope d.priority) c.args.next.now c.optional_number-opcode.new.next c.optional_number-priority.new.next (formal_names d.formals) (written d.opcode) d.priority c.lesser-first.result c.optional_number-priority.result c.lesser.result c.lesser.ensures
    (then_number source c.args.marks.now c.args.resolutions.now scope (formals_items scope d.formals) (value_items scope d.opcode) c.args.next.now c.formals_fault-names.new.next c.optional_number-opcode.new.next (formal_names d.formals) [] d.opcode c.formals_fault-names.result c.optional_number-opcode.result c.lesser-first.result c.lesser-first.ensures
    (of_formals source c.args.marks.now c.args.resolutions.now scope c.args.next.now c.formals_fault-names.new.next d.formals c.as_slice-formals.result.now c.formals_fault-names.result c.as_slice-formals.ensures (c.formals_fault-names.ensures source scope)) (c.optional_number-opcode.ensures source scope)) (c.optional_number-priority.ensures source scope)
