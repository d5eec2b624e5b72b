use Rattle.std.proofs.Common.{◌≡◌, Some, length, slice_get, refl}
use Rattle.std.proofs.lemmas.Option.{slice_get_read}
use Rattle.fp_meaning.specs.Sites.{naming}
use Rattle.fp_meaning.specs.Layout.{target_items}
use Rattle.fp_part_values.proofs.Joining.{moved}
use Rattle.fp_part_values.proofs.Looping.{passes_none, passes_next, passes_all}
use Rattle.fp_meaning.specs.declared.item.Item.TheVariants as item
use Rattle.fp_meaning.specs.declared.group.Group.TheVariants as group
use Rattle.fp_part_values.proofs.form_passing.pass_each_target.Goals as goal

pub loop-target-init : goal.loop-target-init
loop-target-init c source marks scope = passes_none (target_items scope) source marks c.args.resolutions.now c.args.targets.now c.args.next.now

pub loop-target-preserved : goal.loop-target-preserved
loop-target-preserved c source marks scope =
    let all = c.args.targets.now in
    let n = c.loop-target._target-index in
    let x = c._target-item.result in
    let at : slice_get all n ≡ Some x = slice_get_read all (length all) n x refl c.loop-target-test.true c._target-item.is in
    passes_next (target_items scope) source marks c.args.resolutions.now all n x c.args.next.now c.loop-target.next c.pass_one.new.next at (c.loop-target.invariant source marks scope)
    (moved source marks c.args.resolutions.now (item.Used 0 (naming group.Instance scope x.of)) c.loop-target.next c.pass_one.new.next c.pass_one.ensures)

pub returns : goal.returns
returns c source marks scope =
    passes_all (target_items scope) source marks c.args.resolutions.now c.args.targets.now c.loop-target._target-index c.args.next.now c.loop-target.next c.loop-target-test.false (c.loop-target.invariant source marks scope)
