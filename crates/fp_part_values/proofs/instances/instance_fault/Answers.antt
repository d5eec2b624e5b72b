use Rattle.std.proofs.Common.{◌++◌, ◌∷◌, []}
use Rattle.fp_meaning.specs.Sites.{naming}
use Rattle.fp_meaning.specs.Layout.{expression_items, use_items, value_items}
use Rattle.fp_part_values.specs.Names.{written}
use Rattle.fp_part_values.proofs.Joining.{moved, of_number, then_number, passed_then}
use Rattle.fp_meaning.specs.declared.item.Item.TheVariants as item
use Rattle.fp_meaning.specs.declared.group.Group.TheVariants as group
use Rattle.fp_part_values.proofs.instances.instance_fault.Goals as goal

pub returns : goal.returns
returns c source scope =
    let d = c.args.instance.now in
    then_number source c.args.marks.now c.args.resolutions.now scope (use_items group.Component scope d.of ++ expression_items 0 scope d.base ++ value_items scope d.queue ++ value_items scope d.stack ++ value_items scope d.priority) (value_items scope d.cpu) c.args.next.now c.optional_number-priority.new.next c.optional_number-cpu.new.next [] (d.base ∷ written d.queue ++ written d.stack ++ written d.priority) d.cpu c.lesser-third.result c.optional_number-cpu.result c.lesser.result c.lesser.ensures
    (then_number source c.args.marks.now c.args.resolutions.now scope (use_items group.Component scope d.of ++ expression_items 0 scope d.base ++ value_items scope d.queue ++ value_items scope d.stack) (value_items scope d.priority) c.args.next.now c.optional_number-stack.new.next c.optional_number-priority.new.next [] (d.base ∷ written d.queue ++ written d.stack) d.priority c.lesser-second.result c.optional_number-priority.result c.lesser-third.result c.lesser-third.ensures
    (then_number source c.args.marks.now c.args.resolutions.now scope (use_items group.Component scope d.of ++ expression_items 0 scope d.base ++ value_items scope d.queue) (value_items scope d.stack) c.args.next.now c.optional_number-queue.new.next c.optional_number-stack.new.next [] (d.base ∷ written d.queue) d.stack c.lesser-first.result c.optional_number-stack.result c.lesser-second.result c.lesser-second.ensures
    (then_number source c.args.marks.now c.args.resolutions.now scope (use_items group.Component scope d.of ++ expression_items 0 scope d.base) (value_items scope d.queue) c.args.next.now c.number_fault-base.new.next c.optional_number-queue.new.next [] (d.base ∷ []) d.queue c.number_fault-base.result c.optional_number-queue.result c.lesser-first.result c.lesser-first.ensures
    (passed_then source c.args.marks.now c.args.resolutions.now scope (use_items group.Component scope d.of) (expression_items 0 scope d.base) c.args.next.now c.pass_one.new.next c.number_fault-base.new.next [] (d.base ∷ []) c.number_fault-base.result
    (moved source c.args.marks.now c.args.resolutions.now (item.Used 0 (naming group.Component scope d.of)) c.args.next.now c.pass_one.new.next c.pass_one.ensures)
    (of_number source c.args.marks.now c.args.resolutions.now scope (expression_items 0 scope d.base) c.pass_one.new.next c.number_fault-base.new.next d.base c.number_fault-base.result (c.number_fault-base.ensures source scope 0))) (c.optional_number-queue.ensures source scope)) (c.optional_number-stack.ensures source scope)) (c.optional_number-priority.ensures source scope)) (c.optional_number-cpu.ensures source scope)
