use Rattle.std.proofs.Common.{rules, ◌≡◌, length, slice_get, Some, refl}
use Rattle.std.proofs.lemmas.Option.{slice_get_read}
use Rattle.fp_instances.proofs.Built.{all_built, next_built, none_built}
use Rattle.fp_instances.proofs.building.instances_of.Goals as goal

pub loop-one-preserved : goal.loop-one-preserved
loop-one-preserved c within =
    let all = c.args.written.now in
    let n = c.loop-one.one-index in
    let one = c.one-item.result in
    let at : slice_get all n ≡ Some one = slice_get_read all (length all) n one refl c.loop-one-test.true c.one-item.is in
    next_built all n c.loop-one.instances _ one c.in_ok-instance.instance at (c.in_ok-instance.ensures (within n one at)) (search rules) (c.loop-one.invariant within)

pub returns : goal.returns
returns c within = all_built c.args.written.now c.loop-one.one-index c.loop-one.instances c.loop-one-test.false (c.loop-one.invariant within)
