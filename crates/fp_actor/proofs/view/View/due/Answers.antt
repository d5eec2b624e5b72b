use Rattle.std.proofs.Common.{ap, None, length}
use Rattle.fp_actor.specs.Stacked.{frames}
use Rattle.fp_actor.proofs.Looking.{carry}
use Rattle.fp_actor.proofs.Dueness.{due_from, due_none, first_within}
use Rattle.fp_actor.proofs.view.View.due.Goals as goal

pub frame_asks-requires : goal.frame_asks-requires
frame_asks-requires c =
    let i = c.in-Some-first.ensures c.args.bindings.now in
    first_within (length c.args.bindings.now) c.args.levels.now _ i.level _ c.requires.within i.there i.from

pub returns-in-Some-first : goal.returns-in-Some-first
returns-in-Some-first c =
    let v = c.args.self.now in
    let i = c.in-Some-first.ensures c.args.bindings.now in
    let b = c.in-Some.ensures c.args.bindings.now in
    carry c.frame_asks.result _ _
    (due_from v.tables.now v.program.now v.number (frames v.tables.now v.program.now v.number v.trace.now c.args.bindings.now c.args.levels.now) _ _ _ b.is i.first)
    (c.frame_asks.ensures b.doing)

pub returns-in-None-first : goal.returns-in-None-first
returns-in-None-first c =
    let v = c.args.self.now in
    let b = c.in-Some.ensures c.args.bindings.now in
    carry c.through.result _ _
    (due_from v.tables.now v.program.now v.number (frames v.tables.now v.program.now v.number v.trace.now c.args.bindings.now c.args.levels.now) _ _ None b.is
    (c.in-None-first.ensures c.args.bindings.now))
    c.through.ensures

pub returns-in-Some-home : goal.returns-in-Some-home
returns-in-Some-home c =
    let v = c.args.self.now in
    let f = frames v.tables.now v.program.now v.number v.trace.now c.args.bindings.now in
    rw c.in-Some-home.is at (due_none v.tables.now v.program.now v.number (f c.args.levels.now) c.args.home (ap f (c.in-None.ensures c.args.bindings.now)) c.requires.home)

pub returns-in-None-home : goal.returns-in-None-home
returns-in-None-home c =
    let v = c.args.self.now in
    let f = frames v.tables.now v.program.now v.number v.trace.now c.args.bindings.now in
    rw c.in-None-home.is at (due_none v.tables.now v.program.now v.number (f c.args.levels.now) c.args.home (ap f (c.in-None.ensures c.args.bindings.now)) c.requires.home)
