use Rattle.std.proofs.Common.{◌<◌, ◌+◌, ◌-◌, length, sym, ◌∙◌, arith}
use Rattle.fp_base.proofs.Options.{none_unless}
use Rattle.fp_actor.specs.Stacked.{lists_in, actions_of, action_of}
use Rattle.fp_actor.proofs.Reaching.{at_none, within, here, onward_one, mapped_none}
use Rattle.fp_actor.proofs.view.View.reach.Goals as goal

pub returns-in-Some-get-clause-value : goal.returns-in-Some-get-clause-value
returns-in-Some-get-clause-value c =
    let v = c.args.self.now in
    let lists = lists_in v.tables.now v.program.now v.number v.trace.now c.args.next.source in
    sym (here lists c.loop-list.list c.loop-list.list c.loop-list.action _ _ c.in-Some.ensures.value (sym (c.in-Some-get.ensures.value v.tables.now v.program.now v.number v.trace.now)))
    ∙ c.loop-list.invariant

pub loop-list-smaller : goal.loop-list-smaller
loop-list-smaller c =
    let v = c.args.self.now in
    let lists = lists_in v.tables.now v.program.now v.number v.trace.now c.args.next.source in
    let inside = within lists c.loop-list.list (actions_of v.tables.now v.program.now v.number v.trace.now c.in-Some.actions) c.in-Some.ensures.value in
    let smaller : length lists - (c.loop-list.list + 1) < length lists - c.loop-list.list = omega arith in
    smaller

pub loop-list-preserved : goal.loop-list-preserved
loop-list-preserved c =
    let v = c.args.self.now in
    let lists = lists_in v.tables.now v.program.now v.number v.trace.now c.args.next.source in
    let none = none_unless c.get.result c.in_default-get.not-Some in
    let end = mapped_none (action_of v.tables.now v.program.now v.number v.trace.now) c.get.result _ (c.get.ensures.value v.tables.now v.program.now v.number v.trace.now) none in
    sym (onward_one lists c.loop-list.list c.loop-list.action _ c.in-Some.ensures.value end) ∙ c.loop-list.invariant

pub returns-clause-value : goal.returns-clause-value
returns-clause-value c =
    let v = c.args.self.now in
    let lists = lists_in v.tables.now v.program.now v.number v.trace.now c.args.next.source in
    let none = none_unless c.list.result c.in_default.not-Some in
    let end = mapped_none (actions_of v.tables.now v.program.now v.number v.trace.now) c.list.result _ c.list.ensures.value none in
    sym (at_none lists c.loop-list.list c.loop-list.list c.loop-list.action (sym end)) ∙ c.loop-list.invariant
