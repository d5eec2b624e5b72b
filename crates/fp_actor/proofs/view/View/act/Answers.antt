use Rattle.std.proofs.Common.{is_some, List, sym, ap, ◌∙◌, subst}
use Rattle.fp_events.specs.Due.{first_action}
use Rattle.fp_events.specs.Follows.{doing}
use Rattle.fp_actor.specs.declared.level.Level.{Level}
use Rattle.fp_actor.specs.declared.step.Change.{Change}
use Rattle.fp_actor.specs.Stacked.{frames, IsFirst}
use Rattle.fp_actor.specs.Awaited.{IsChange}
use Rattle.fp_actor.proofs.Closing.{change_acts, start_advances, move_advances}
use Rattle.fp_actor.proofs.view.View.act.Goals as goal

pub returns-in_default : goal.returns-in_default
returns-in_default c = λ entry there o awaited.
    let v = c.args.self.now in
    let bs = c.args.bindings.now.items in
    let through = ap (λ (ms : List Level). first_action (doing (frames v.tables.now v.program.now v.number v.trace.now bs ms))) (sym c.as_slice.ensures.value) ∙ c.in_default.ensures bs in
    let some = awaited.action (change_acts c.args.change entry.what o) in
    let no = sym (ap is_some through) ∙ some in
    absurd (cc)

pub open_frame-requires-clause-first : goal.open_frame-requires-clause-first
open_frame-requires-clause-first c = λ bindings.
    let v = c.args.self.now in
    subst (λ (ms : List Level). IsFirst v.tables.now v.program.now v.number v.trace.now bindings ms c.in-Some.first) c.as_slice.ensures.value (c.in-Some.ensures bindings)

pub remove_first-requires : goal.remove_first-requires
remove_first-requires c = λ bindings.
    let v = c.args.self.now in
    subst (λ (ms : List Level). IsFirst v.tables.now v.program.now v.number v.trace.now bindings ms c.in-Some.first) c.as_slice.ensures.value (c.in-Some.ensures bindings)

pub send_first-requires-clause-first : goal.send_first-requires-clause-first
send_first-requires-clause-first c = λ bindings.
    let v = c.args.self.now in
    subst (λ (ms : List Level). IsFirst v.tables.now v.program.now v.number v.trace.now bindings ms c.in-Some.first) c.as_slice.ensures.value (c.in-Some.ensures bindings)

pub start-requires-clause-first : goal.start-requires-clause-first
start-requires-clause-first c = λ bindings.
    let v = c.args.self.now in
    subst (λ (ms : List Level). IsFirst v.tables.now v.program.now v.number v.trace.now bindings ms c.in-Some.first) c.as_slice.ensures.value (c.in-Some.ensures bindings)

pub move_on-requires-clause-first : goal.move_on-requires-clause-first
move_on-requires-clause-first c = λ bindings.
    let v = c.args.self.now in
    subst (λ (ms : List Level). IsFirst v.tables.now v.program.now v.number v.trace.now bindings ms c.in-Some.first) c.as_slice.ensures.value (c.in-Some.ensures bindings)

pub read-requires-clause-first : goal.read-requires-clause-first
read-requires-clause-first c =
    let v = c.args.self.now in
    let bs = c.args.bindings.now.items in
    subst (λ (ms : List Level). IsFirst v.tables.now v.program.now v.number v.trace.now bs ms c.in-Some.first) c.as_slice.ensures.value (c.in-Some.ensures bs)

pub returns-in-Frame : goal.returns-in-Frame
returns-in-Frame c = λ entry there o awaited.
    let is = subst (λ (k : Change). IsChange k entry.what) c.in-Frame.is o in
    c.open_frame.ensures c.args.bindings.now.items entry there is c.requires.kept

pub returns-in-Nothing : goal.returns-in-Nothing
returns-in-Nothing c = λ entry there o awaited.
    let is = subst (λ (k : Change). IsChange k entry.what) c.in-Nothing.is o in
    c.remove_first.ensures c.args.bindings.now.items entry is c.requires.kept

pub returns-in-Sending : goal.returns-in-Sending
returns-in-Sending c = λ entry there o awaited.
    let is = subst (λ (k : Change). IsChange k entry.what) c.in-Sending.is o in
    c.send_first.ensures c.args.bindings.now.items entry there is c.requires.kept

pub returns-in-Before : goal.returns-in-Before
returns-in-Before c = λ entry there o awaited.
    let is = subst (λ (k : Change). IsChange k entry.what) c.in-Before.is o in
    c.start.ensures c.args.bindings.now.items entry there is (awaited.advance (start_advances entry.what is)) c.requires.kept

pub returns-in-Instead : goal.returns-in-Instead
returns-in-Instead c = λ entry there o awaited.
    let is = subst (λ (k : Change). IsChange k entry.what) c.in-Instead.is o in
    c.move_on.ensures c.args.bindings.now.items entry there is (awaited.advance (move_advances entry.what is)) c.requires.kept

pub returns-in-Value : goal.returns-in-Value
returns-in-Value c = λ entry there o awaited.
    let is = subst (λ (k : Change). IsChange k entry.what) c.in-Value.is o in
    c.read.ensures entry there is
