use Rattle.std.proofs.Common.{◌∙◌}
use Rattle.fp_scenario_run.specs.Told.{is_take}
use Rattle.fp_scenario_run.proofs.Counted.{none_counted, one_counted}
use Rattle.fp_scenario_run.proofs.counting.takes_in.Goals as goal
use Rattle.fp_scenario_run.proofs.counting.takes_in.Goals.{else-is_take, then-is_take}

pub loop-entry-preserved : goal.loop-entry-preserved
loop-entry-preserved c =
    elim c.if-is_take.branch [
      | then-is_take w ↦ w.takes-is ∙ one_counted is_take c.args.entries.now c.loop-entry.entry-index c.entry-item.result c.loop-entry-test.true c.entry-item.is _ _ c.is_take.ensures w.if-is_take.true c.loop-entry.invariant
      | else-is_take w ↦ w.takes-is ∙ none_counted is_take c.args.entries.now c.loop-entry.entry-index c.entry-item.result c.loop-entry-test.true c.entry-item.is _ _ c.is_take.ensures w.if-is_take.false c.loop-entry.invariant
    ]
