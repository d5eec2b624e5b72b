use Rattle.std.proofs.Common.{◌≡◌, Some, length, slice_get, refl}
use Rattle.std.proofs.lemmas.Option.{slice_get_read}
use Rattle.fp_meaning.specs.Sites.{placed}
use Rattle.fp_meaning.specs.Layout.{limit_items}
use Rattle.fp_part_values.proofs.Joining.{moved}
use Rattle.fp_part_values.proofs.Looping.{passes_none, passes_next, passes_all}
use Rattle.fp_meaning.specs.declared.item.Item.TheVariants as item
use Rattle.fp_part_values.proofs.form_passing.pass_each_limit.Goals as goal

pub loop-limit-init : goal.loop-limit-init
loop-limit-init c source marks scope = passes_none (limit_items scope) source marks c.args.resolutions.now c.args.limits.now c.args.next.now

pub loop-limit-preserved : goal.loop-limit-preserved
loop-limit-preserved c source marks scope =
    let all = c.args.limits.now in
    let n = c.loop-limit._limit-index in
    let x = c._limit-item.result in
    let at : slice_get all n ≡ Some x = slice_get_read all (length all) n x refl c.loop-limit-test.true c._limit-item.is in
    passes_next (limit_items scope) source marks c.args.resolutions.now all n x c.args.next.now c.loop-limit.next c.pass_one.new.next at (c.loop-limit.invariant source marks scope)
    (moved source marks c.args.resolutions.now (item.Written 0 (placed scope x.value)) c.loop-limit.next c.pass_one.new.next c.pass_one.ensures)

pub returns : goal.returns
returns c source marks scope =
    passes_all (limit_items scope) source marks c.args.resolutions.now c.args.limits.now c.loop-limit._limit-index c.args.next.now c.loop-limit.next c.loop-limit-test.false (c.loop-limit.invariant source marks scope)
