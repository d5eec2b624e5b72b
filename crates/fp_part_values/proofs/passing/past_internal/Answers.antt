use Rattle.fp_meaning.specs.Layout.{formals_items, value_items}
use Rattle.fp_part_values.proofs.Passed.{passed_then}
use Rattle.fp_part_values.proofs.passing.past_internal.Goals as goal

pub returns-clause-passes : goal.returns-clause-passes
returns-clause-passes c source scope =
    let p = c.args.port.now in
    passed_then source c.args.marks.now c.args.resolutions.now (formals_items scope p.formals) (value_items scope p.priority) c.args.next.now c.pass_formals.new.next c.pass_value.new.next (c.pass_formals.ensures source scope)
    (c.pass_value.ensures source c.args.marks.now scope)
