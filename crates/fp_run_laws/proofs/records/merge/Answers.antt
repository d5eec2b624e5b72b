use Rattle.fp_base.proofs.Options.{if_ok_then}
use Rattle.fp_run_laws.proofs.Apart.{placed_apart}
use Rattle.fp_run_laws.proofs.records.merge.Goals as goal

pub returns-clause-sorted : goal.returns-clause-sorted
returns-clause-sorted c = if_ok_then c.in_order.result _ _ (λ es order. order.0) c.in_order.ensures

pub returns-clause-run : goal.returns-clause-run
returns-clause-run c =
    if_ok_then c.in_order.result _ _
    (λ es order. (c.merging.ensures c.args.tables.now c.args.program.now c.args.kept.histories c.args.kept.traces (placed_apart c.args.tables.now c.requires.sound) c.requires.records es order.0 order.1).0)
    c.in_order.ensures

pub returns-clause-histories : goal.returns-clause-histories
returns-clause-histories c =
    if_ok_then c.in_order.result _ _
    (λ es order. (c.merging.ensures c.args.tables.now c.args.program.now c.args.kept.histories c.args.kept.traces (placed_apart c.args.tables.now c.requires.sound) c.requires.records es order.0 order.1).1)
    c.in_order.ensures

pub returns-clause-traces : goal.returns-clause-traces
returns-clause-traces c =
    if_ok_then c.in_order.result _ _
    (λ es order. (c.merging.ensures c.args.tables.now c.args.program.now c.args.kept.histories c.args.kept.traces (placed_apart c.args.tables.now c.requires.sound) c.requires.records es order.0 order.1).2)
    c.in_order.ensures
