use Rattle.std.proofs.Common.{◌++◌, ap, sym, ◌∙◌, subst, List}
use Rattle.fp_events.specs.declared.event.Entry.{Entry}
use Rattle.fp_events.specs.Ends.{EndsAs}
use Rattle.fp_events.specs.Run.{at, by, IsRun}
use Rattle.fp_running.specs.Progress.{Progress}
use Rattle.fp_running.proofs.Anew.{at_begins, by_begins}
use Rattle.fp_running.proofs.OnlyGoing.{GoneOn, gone_on, ends_so}
use Rattle.fp_running.proofs.concluding.go_to_the_end.Goals as goal

pub replay-requires : goal.replay-requires
replay-requires c =
    subst (λ (r : Progress). IsRun r.tables r.program (r.entries ++ c.as_slice.result.now)) (sym c.in_ok-running.ensures)
    (subst (λ (es : List Entry). IsRun c.args.tables.now c.args.program.now es) (sym c.as_slice.ensures) c.requires.run)

pub in_order-requires-clause-tables : goal.in_order-requires-clause-tables
in_order-requires-clause-tables c =
    let g : GoneOn c.args.tables.now c.args.program.now c.args.entries c.in_ok-more.more c.finish.new.self =
    gone_on c.args.tables.now c.args.program.now c.args.entries c.as_slice.result.now c.in_ok-running.running c.replay.new.self c.go_on.new.self c.finish.new.self
    c.in_ok-more.more c.as_slice.ensures c.in_ok-running.ensures c.in_ok-replay.ensures.replayed c.in_ok-more.ensures.added c.in_ok-finish.ensures.same in
    g.same_tables

pub in_order-requires-clause-program : goal.in_order-requires-clause-program
in_order-requires-clause-program c =
    let g : GoneOn c.args.tables.now c.args.program.now c.args.entries c.in_ok-more.more c.finish.new.self =
    gone_on c.args.tables.now c.args.program.now c.args.entries c.as_slice.result.now c.in_ok-running.running c.replay.new.self c.go_on.new.self c.finish.new.self
    c.in_ok-more.more c.as_slice.ensures c.in_ok-running.ensures c.in_ok-replay.ensures.replayed c.in_ok-more.ensures.added c.in_ok-finish.ensures.same in
    g.same_program

pub in_order-requires-clause-run : goal.in_order-requires-clause-run
in_order-requires-clause-run c =
    let g : GoneOn c.args.tables.now c.args.program.now c.args.entries c.in_ok-more.more c.finish.new.self =
    gone_on c.args.tables.now c.args.program.now c.args.entries c.as_slice.result.now c.in_ok-running.running c.replay.new.self c.go_on.new.self c.finish.new.self
    c.in_ok-more.more c.as_slice.ensures c.in_ok-running.ensures c.in_ok-replay.ensures.replayed c.in_ok-more.ensures.added c.in_ok-finish.ensures.same in
    let end : EndsAs c.args.tables.now c.args.program.now c.finish.new.self.entries c.in_ok-finish.finish =
    ends_so c.args.tables.now c.args.program.now c.finish.new.self c.in_ok-finish.finish g.same_tables g.same_program
    (subst (λ (r : Progress). EndsAs r.tables r.program r.entries c.in_ok-finish.finish) (sym c.in_ok-finish.ensures.same) c.in_ok-finish.ensures.end) in
    (end.0, end.1)

pub in_order-requires-clause-all : goal.in_order-requires-clause-all
in_order-requires-clause-all c =
    let g : GoneOn c.args.tables.now c.args.program.now c.args.entries c.in_ok-more.more c.finish.new.self =
    gone_on c.args.tables.now c.args.program.now c.args.entries c.as_slice.result.now c.in_ok-running.running c.replay.new.self c.go_on.new.self c.finish.new.self
    c.in_ok-more.more c.as_slice.ensures c.in_ok-running.ensures c.in_ok-replay.ensures.replayed c.in_ok-more.ensures.added c.in_ok-finish.ensures.same in
    g.all

pub returns-clause-ends : goal.returns-clause-ends
returns-clause-ends c =
    let g : GoneOn c.args.tables.now c.args.program.now c.args.entries c.in_ok-more.more c.finish.new.self =
    gone_on c.args.tables.now c.args.program.now c.args.entries c.as_slice.result.now c.in_ok-running.running c.replay.new.self c.go_on.new.self c.finish.new.self
    c.in_ok-more.more c.as_slice.ensures c.in_ok-running.ensures c.in_ok-replay.ensures.replayed c.in_ok-more.ensures.added c.in_ok-finish.ensures.same in
    let end : EndsAs c.args.tables.now c.args.program.now c.finish.new.self.entries c.in_ok-finish.finish =
    ends_so c.args.tables.now c.args.program.now c.finish.new.self c.in_ok-finish.finish g.same_tables g.same_program
    (subst (λ (r : Progress). EndsAs r.tables r.program r.entries c.in_ok-finish.finish) (sym c.in_ok-finish.ensures.same) c.in_ok-finish.ensures.end) in
    c.same_world.ensures.end c.args.tables.now c.args.program.now c.finish.new.self.entries c.in_ok-all.all c.in_ok-finish.finish end c.in_ok-all.ensures.histories c.in_ok-all.ensures.traces

pub returns-clause-histories : goal.returns-clause-histories
returns-clause-histories c =
    let g : GoneOn c.args.tables.now c.args.program.now c.args.entries c.in_ok-more.more c.finish.new.self =
    gone_on c.args.tables.now c.args.program.now c.args.entries c.as_slice.result.now c.in_ok-running.running c.replay.new.self c.go_on.new.self c.finish.new.self
    c.in_ok-more.more c.as_slice.ensures c.in_ok-running.ensures c.in_ok-replay.ensures.replayed c.in_ok-more.ensures.added c.in_ok-finish.ensures.same in
    at_begins c.args.entries g.added c.in_ok-all.all (λ i. c.in_ok-all.ensures.histories i ∙ ap (at i) g.entries)

pub returns-clause-traces : goal.returns-clause-traces
returns-clause-traces c =
    let g : GoneOn c.args.tables.now c.args.program.now c.args.entries c.in_ok-more.more c.finish.new.self =
    gone_on c.args.tables.now c.args.program.now c.args.entries c.as_slice.result.now c.in_ok-running.running c.replay.new.self c.go_on.new.self c.finish.new.self
    c.in_ok-more.more c.as_slice.ensures c.in_ok-running.ensures c.in_ok-replay.ensures.replayed c.in_ok-more.ensures.added c.in_ok-finish.ensures.same in
    by_begins c.args.entries g.added c.in_ok-all.all (λ a. c.in_ok-all.ensures.traces a ∙ ap (by a) g.entries)
