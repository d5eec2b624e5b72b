use Rattle.std.proofs.Common.{◌++◌, []}
use Rattle.fp_meaning.specs.Names.{in_optional}
use Rattle.fp_meaning.specs.Layout.{use_items, value_items}
use Rattle.fp_part_values.specs.Names.{written}
use Rattle.fp_part_values.proofs.Joining.{of_optional_number, then_number, then_passed}
use Rattle.fp_meaning.specs.declared.group.Group.TheVariants as group
use Rattle.fp_part_values.proofs.components.general_fault.Goals as goal

pub returns : goal.returns
returns c source scope =
    let p = c.args.port.now in
    then_number source c.args.marks.now c.args.resolutions.now scope (value_items scope p.size ++ in_optional (use_items group.Port scope) p.of) (value_items scope p.priority) c.args.next.now c.pass_name.new.next c.optional_number-priority.new.next [] (written p.size) p.priority c.optional_number-size.result c.optional_number-priority.result c.lesser.result c.lesser.ensures
    (then_passed source c.args.marks.now c.args.resolutions.now scope (value_items scope p.size) (in_optional (use_items group.Port scope) p.of) c.args.next.now c.optional_number-size.new.next c.pass_name.new.next [] (written p.size) c.optional_number-size.result
    (of_optional_number source c.args.marks.now c.args.resolutions.now scope (value_items scope p.size) c.args.next.now c.optional_number-size.new.next p.size c.optional_number-size.result (c.optional_number-size.ensures source scope)) (c.pass_name.ensures source c.args.marks.now group.Port scope)) (c.optional_number-priority.ensures source scope)
