use Rattle.std.proofs.Common.{◌≡◌, List, Some, None, length, MatchOption, refl, sym, subst}
use Rattle.fp_base.proofs.Lists.{no_items}
use Rattle.fp_events.specs.Due.{first_action}
use Rattle.fp_events.specs.Follows.{doing}
use Rattle.fp_actor.specs.declared.level.Level.{Level}
use Rattle.fp_actor.specs.declared.stack.First.{First}
use Rattle.fp_actor.specs.Seen.{frames, IsFirst}
use Rattle.fp_actor.proofs.Stacking.{first_here, carried, none_here}
use Rattle.fp_actor.proofs.view.View.first.Goals as goal

pub returns-in-Some-reach : goal.returns-in-Some-reach
returns-in-Some-reach c = λ bindings.
    let v = c.args.self.now in
    let first : First = record { below = length c.in-Some.below.now; level = c.settled.result; deed = c.in-Some-reach.reached.deed } in
    let here : IsFirst v bindings c.loop-level.left.now first =
    rw (c.in-Some.ensures.cases.0, c.settled.ensures)
    (first_here v.tables.now v.program.now v.number v.trace.now bindings c.in-Some.below.now c.in-Some.level.now c.in-Some-reach.reached.at c.in-Some-reach.reached.deed
    c.in-Some-reach.ensures.few c.in-Some-reach.ensures.source (sym c.in-Some-reach.ensures.value)) in
    c.loop-level.invariant bindings (Some first) here

pub loop-level-preserved : goal.loop-level-preserved
loop-level-preserved c = λ bindings o h.
    let v = c.args.self.now in
    let over : MatchOption o (first_action (doing (frames v bindings c.loop-level.left.now)) ≡ None) (IsFirst v bindings c.loop-level.left.now) =
    rw c.in-Some.ensures.cases.0
    (carried v.tables.now v.program.now v.number v.trace.now bindings c.in-Some.level.now (sym c.in-None.ensures.value) c.in-Some.below.now o c.in-Inside.is h) in
    c.loop-level.invariant bindings o over

pub returns-in_default-base : goal.returns-in_default-base
returns-in_default-base c = λ bindings.
    let v = c.args.self.now in
    let none : first_action (doing (frames v bindings c.loop-level.left.now)) ≡ None =
    rw c.in-Some.ensures.cases.0
    (none_here v.tables.now v.program.now v.number v.trace.now bindings c.in-Some.level.now (sym c.in-None.ensures.value) c.in-Some.below.now c.in_default-base.not-Inside) in
    c.loop-level.invariant bindings None none

pub returns : goal.returns
returns c = λ bindings.
    let v = c.args.self.now in
    let ended = no_items c.loop-level.left.now c.in_default.ensures.cases in
    c.loop-level.invariant bindings None (subst (λ (ls : List Level). first_action (doing (frames v bindings ls)) ≡ None) (sym ended) refl)
