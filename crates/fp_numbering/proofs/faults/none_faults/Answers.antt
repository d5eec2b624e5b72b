use Rattle.std.proofs.Common.{arith}
use Rattle.std.proofs.lemmas.Option.{slice_get-get_or}
use Rattle.fp_base.proofs.Elements.{least_first_none}
use Rattle.fp_numbering.specs.Faults.{FindsNonePlainly}
use Rattle.fp_numbering.proofs.Faulting.{next, over}
use Rattle.fp_numbering.proofs.faults.none_faults.Goals as goal

pub loop-at-init : goal.loop-at-init
loop-at-init c = least_first_none (FindsNonePlainly c.args.tips.now c.args.numbers.now) c.args.tips.now

pub loop-at-preserved : goal.loop-at-preserved
loop-at-preserved c =
    let ts = c.args.tips.now in
    let ns = c.args.numbers.now in
    let k = c.loop-at.at in
    next (FindsNonePlainly ts ns) ts k c.loop-at.first c.none_fault.result _ (omega arith) c.lesser-first.ensures c.loop-at.invariant
    (c.none_fault.ensures ts ns k (slice_get-get_or ns k _ (omega arith)))

pub returns : goal.returns
returns c = over (FindsNonePlainly c.args.tips.now c.args.numbers.now) c.args.tips.now c.loop-at.at c.loop-at.first (omega arith) c.loop-at.invariant
