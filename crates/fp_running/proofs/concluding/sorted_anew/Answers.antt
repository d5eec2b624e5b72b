use Rattle.fp_base.proofs.Options.{if_ok_then}
use Rattle.fp_running.proofs.Anew.{are_records, at_anew, by_anew}
use Rattle.fp_running.proofs.concluding.sorted_anew.Goals as goal

pub merge-requires-clause-records : goal.merge-requires-clause-records
merge-requires-clause-records c =
    are_records c.args.tables.now c.args.program.now c.args.running c.requires.tables c.requires.program _ _
    c.in_ok-records.ensures.histories c.in_ok-records.ensures.traces
    (c.projections.ensures.records c.args.tables.now c.args.program.now c.args.running.entries c.requires.run)

pub returns-clause-histories : goal.returns-clause-histories
returns-clause-histories c =
    if_ok_then c.merge.result _ _
    (at_anew c.args.tables.now c.args.program.now c.args.running c.requires.tables c.requires.program _ _
    c.in_ok-records.ensures.histories c.in_ok-records.ensures.traces
    (c.projections.ensures.kept c.args.tables.now c.args.program.now c.args.running.entries c.requires.run))
    c.merge.ensures.histories

pub returns-clause-traces : goal.returns-clause-traces
returns-clause-traces c =
    if_ok_then c.merge.result _ _
    (by_anew c.args.tables.now c.args.program.now c.args.running c.requires.tables c.requires.program _ _
    c.in_ok-records.ensures.histories c.in_ok-records.ensures.traces
    (c.projections.ensures.told c.args.tables.now c.args.program.now c.args.running.entries c.requires.run))
    c.merge.ensures.traces
