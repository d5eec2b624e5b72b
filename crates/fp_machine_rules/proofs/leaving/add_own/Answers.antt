use Rattle.std.proofs.Common.{List, subst, sym}
use Rattle.std.specs.Ordering.{nat_cmp}
use Rattle.std.specs.BTreeSet.{contains}
use Rattle.std.proofs.lemmas.List.{take_more}
use Rattle.fp_machine_rules.specs.declared.gathering.Move.{Move}
use Rattle.fp_machine_rules.specs.Leaving.{AddsOwn}
use Rattle.fp_machine_rules.proofs.Outward.{own_both}
use Rattle.fp_machine_rules.proofs.leaving.add_own.Goals as goal

pub loop-one-preserved : goal.loop-one-preserved
loop-one-preserved c =
    subst (λ (ms : List Move). AddsOwn ms (contains nat_cmp c.args.noted.now) c.args.row.now (contains nat_cmp c.add_one.new.noted) c.add_one.new.row)
    (sym (take_more c.args.moves.now c.loop-one.one-index _ c.loop-one-test.true))
    (own_both _ _ _ _ _ _ _ _ c.loop-one.invariant c.in_ok-add_one.ensures)
