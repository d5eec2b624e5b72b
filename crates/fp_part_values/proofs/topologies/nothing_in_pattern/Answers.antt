use Rattle.fp_meaning.specs.Names.{in_optional}
use Rattle.fp_meaning.specs.Sites.{naming}
use Rattle.fp_meaning.specs.Layout.{targets_items, use_items}
use Rattle.fp_part_values.proofs.Joining.{moved, passed_both}
use Rattle.fp_meaning.specs.declared.item.Item.TheVariants as item
use Rattle.fp_meaning.specs.declared.group.Group.TheVariants as group
use Rattle.fp_part_values.proofs.topologies.nothing_in_pattern.Goals as goal

pub returns-clause-passes : goal.returns-clause-passes
returns-clause-passes c source marks scope =
    let p = c.args.pattern.now in
    passed_both source marks c.args.resolutions.now (use_items group.Instance scope p.of) (in_optional (targets_items scope) p.targets) c.args.next.now c.pass_one.new.next c.pass_targets.new.next
    (moved source marks c.args.resolutions.now (item.Used 0 (naming group.Instance scope p.of)) c.args.next.now c.pass_one.new.next c.pass_one.ensures) (c.pass_targets.ensures source marks scope)
