use Rattle.std.proofs.Common.{◌++◌}
use Rattle.fp_meaning.specs.Layout.{formals_items, value_items}
use Rattle.fp_part_values.proofs.Passed.{passed_then}
use Rattle.fp_part_values.proofs.passing.past_command.Goals as goal

pub returns-clause-passes : goal.returns-clause-passes
returns-clause-passes c source scope =
    let x = c.args.command.now in
    let marks = c.args.marks.now in
    let rs = c.args.resolutions.now in
    let formals = formals_items scope x.formals in
    let first = value_items scope x.opcode in
    passed_then source marks rs (formals ++ first) (value_items scope x.priority) c.args.next.now c.pass_value.new.next c.pass_value-2.new.next
    (passed_then source marks rs formals first c.args.next.now c.pass_formals.new.next c.pass_value.new.next (c.pass_formals.ensures source scope) (c.pass_value.ensures source marks scope))
    (c.pass_value-2.ensures source marks scope)
