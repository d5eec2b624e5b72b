use Rattle.fp_meaning.specs.declared.group.Group.TheVariants.{Machine}
use Rattle.fp_meaning.specs.declared.item.Item.TheVariants as item
use Rattle.fp_meaning.specs.Layout.{use_items, value_items}
use Rattle.fp_meaning.specs.Sites.{naming}
use Rattle.fp_part_values.proofs.Passed.{passed_one, passed_then}
use Rattle.fp_part_values.proofs.passing.past_running.Goals as goal

pub returns-clause-passes : goal.returns-clause-passes
returns-clause-passes c source marks scope =
    let x = c.args.running.now in
    let rs = c.args.resolutions.now in
    passed_then source marks rs (use_items Machine scope x.of) (value_items scope x.priority) c.args.next.now c.pass_one.new.next c.pass_value.new.next
    (passed_one source marks rs (item.Used 0 (naming Machine scope x.of)) c.args.next.now c.pass_one.new.next c.pass_one.ensures) (c.pass_value.ensures source marks scope)
