use Rattle.std.proofs.Common.{[]}
use Rattle.fp_meaning.specs.Sites.{naming}
use Rattle.fp_meaning.specs.Layout.{use_items, value_items}
use Rattle.fp_part_values.specs.Names.{written}
use Rattle.fp_part_values.proofs.Joining.{moved, of_optional_number, passed_then}
use Rattle.fp_meaning.specs.declared.item.Item.TheVariants as item
use Rattle.fp_meaning.specs.declared.group.Group.TheVariants as group
use Rattle.fp_part_values.proofs.components.running_fault.Goals as goal

pub returns : goal.returns
returns c source scope =
    let r = c.args.running.now in
    passed_then source c.args.marks.now c.args.resolutions.now scope (use_items group.Machine scope r.of) (value_items scope r.priority) c.args.next.now c.pass_one.new.next c.optional_number.new.next [] (written r.priority) c.optional_number.result
    (moved source c.args.marks.now c.args.resolutions.now (item.Used 0 (naming group.Machine scope r.of)) c.args.next.now c.pass_one.new.next c.pass_one.ensures)
    (of_optional_number source c.args.marks.now c.args.resolutions.now scope (value_items scope r.priority) c.pass_one.new.next c.optional_number.new.next r.priority c.optional_number.result (c.optional_number.ensures source scope))
