use Rattle.std.proofs.Common.{◌+◌, ◌++◌, List, ℕ, take, subst}
use Rattle.std.proofs.lemmas.List.{take_all}
use Rattle.std.proofs.lemmas.Option.{slice_get-get_or}
use Rattle.fp_base.proofs.Lists.{take_next}
use Rattle.fp_topologies.specs.ImportFirsts.{AreFirsts}
use Rattle.fp_topologies.proofs.ImportNoting.{none_more, some_more}
use Rattle.fp_topologies.proofs.firsts.with_numbers.Goals as goal

pub loop-number-init : goal.loop-number-init
loop-number-init c all before = none_more all c.args.firsts before

pub loop-number-preserved : goal.loop-number-preserved
loop-number-preserved c all before =
    let xs = c.args.numbers.now in
    let n = c.loop-number.number-index in
    some_more all (take n xs) _ (take (n + 1) xs) c.in_ok-after.after (take_next xs n _ (slice_get-get_or xs n _ c.loop-number-test.true))
    (c.in_ok-after.ensures (all ++ take n xs) (c.loop-number.invariant all before))

pub returns : goal.returns
returns c all before =
    subst (λ (ns : List ℕ). AreFirsts (all ++ ns) c.loop-number.after) (take_all c.loop-number.number-index c.args.numbers.now c.loop-number-test.false) (c.loop-number.invariant all before)
