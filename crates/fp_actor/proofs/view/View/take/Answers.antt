use Rattle.std.proofs.Common.{◌≡◌, false, is_some, List, sym, ap, ◌∙◌, subst}
use Rattle.fp_events.specs.Due.{first_action}
use Rattle.fp_events.specs.Follows.{doing}
use Rattle.fp_actor.specs.declared.level.Level.{Level}
use Rattle.fp_actor.specs.Stacked.{frames, IsFirst}
use Rattle.fp_actor.proofs.Closing.{no_frames}
use Rattle.fp_actor.proofs.view.View.take.Goals as goal

pub take_from_frame-requires-clause-first : goal.take_from_frame-requires-clause-first
take_from_frame-requires-clause-first c = λ bindings.
    let v = c.args.self.now in
    subst (λ (ms : List Level). IsFirst v.tables.now v.program.now v.number v.trace.now bindings ms c.in-Some.first) c.as_slice.ensures.value (c.in-Some.ensures bindings)

pub returns-in-Some : goal.returns-in-Some
returns-in-Some c = λ bindings entry there o awaited kept. c.take_from_frame.ensures bindings entry there o kept

pub returns-in-None : goal.returns-in-None
returns-in-None c = λ bindings entry there o awaited kept.
    let v = c.args.self.now in
    let ls = c.args.levels.now.items in
    let through = ap (λ (ms : List Level). first_action (doing (frames v.tables.now v.program.now v.number v.trace.now bindings ms))) (sym c.as_slice.ensures.value) ∙ c.in-None.ensures bindings in
    let none : is_some (first_action (doing (frames v.tables.now v.program.now v.number v.trace.now bindings ls))) ≡ false = ap is_some through in
    c.take_frame.ensures bindings entry there o (no_frames v.tables.now v.program.now v.number v.trace.now bindings ls (awaited.take o none)) kept
