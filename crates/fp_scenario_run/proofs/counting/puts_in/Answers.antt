use Rattle.std.proofs.Common.{◌∙◌}
use Rattle.fp_scenario_run.specs.Told.{is_put}
use Rattle.fp_scenario_run.proofs.Counted.{none_counted, one_counted}
use Rattle.fp_scenario_run.proofs.counting.puts_in.Goals as goal
use Rattle.fp_scenario_run.proofs.counting.puts_in.Goals.{else-is_put, then-is_put}

pub loop-entry-preserved : goal.loop-entry-preserved
loop-entry-preserved c =
    elim c.if-is_put.branch [
      | then-is_put w ↦ w.puts-is ∙ one_counted is_put c.args.entries.now c.loop-entry.entry-index c.entry-item.result c.loop-entry-test.true c.entry-item.is _ _ c.is_put.ensures w.if-is_put.true c.loop-entry.invariant
      | else-is_put w ↦ w.puts-is ∙ none_counted is_put c.args.entries.now c.loop-entry.entry-index c.entry-item.result c.loop-entry-test.true c.entry-item.is _ _ c.is_put.ensures w.if-is_put.false c.loop-entry.invariant
    ]
