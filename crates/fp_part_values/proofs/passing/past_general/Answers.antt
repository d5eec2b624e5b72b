use Rattle.std.proofs.Common.{◌++◌}
use Rattle.fp_meaning.specs.declared.group.Group.TheVariants.{Port}
use Rattle.fp_meaning.specs.Layout.{use_items, value_items}
use Rattle.fp_meaning.specs.Names.{in_optional}
use Rattle.fp_part_values.proofs.Passed.{passed_then}
use Rattle.fp_part_values.proofs.passing.past_general.Goals as goal

pub returns-clause-passes : goal.returns-clause-passes
returns-clause-passes c source marks scope =
    let p = c.args.port.now in
    let rs = c.args.resolutions.now in
    let size = value_items scope p.size in
    let of = in_optional (use_items Port scope) p.of in
    passed_then source marks rs (size ++ of) (value_items scope p.priority) c.args.next.now c.pass_name.new.next c.pass_value-2.new.next
    (passed_then source marks rs size of c.args.next.now c.pass_value.new.next c.pass_name.new.next (c.pass_value.ensures source marks scope) (c.pass_name.ensures source marks Port scope))
    (c.pass_value-2.ensures source marks scope)
