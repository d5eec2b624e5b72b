use Rattle.std.proofs.Common.{List, subst, sym}
use Rattle.std.proofs.lemmas.List.{take_more}
use Rattle.fp_machine_rules.specs.declared.item.Target.{Target}
use Rattle.fp_machine_rules.specs.declared.item.Target.TheVariants.{Stays}
use Rattle.fp_machine_rules.specs.Visits.{Adds}
use Rattle.fp_machine_rules.proofs.Visited.{adds_both}
use Rattle.fp_machine_rules.proofs.reaching.add_all.Goals as goal

pub loop-target-preserved : goal.loop-target-preserved
loop-target-preserved c =
    let e = c.in_ok-add.ensures in (
      λ h. e.kept (c.loop-target.invariant.0 h),
      subst (λ (ts : List Target). Adds ts c.args.visit.now.seen.items c.args.visit.now.found.items c.add.new.visit.seen.items c.add.new.visit.found.items)
          (sym (take_more c.args.targets.now c.loop-target.target-index Stays c.loop-target-test.true))
          (adds_both _ _ _ _ _ _ _ _ c.loop-target.invariant.1 e.adds),
    )
