use Rattle.std.proofs.Common.{◌≡◌, [], length}
use Rattle.fp_base.proofs.Lists.{no_items}
use Rattle.fp_actor.specs.declared.stack.Bottom.{Bottom}
use Rattle.fp_actor.specs.Seen.{IsBottom}
use Rattle.fp_actor.proofs.Stacking.{bottom_here, bottom_below, bottom_first}
use Rattle.fp_actor.proofs.view.View.bottom.Goals as goal

pub loop-level-preserved : goal.loop-level-preserved
loop-level-preserved c = λ bindings.
    let v = c.args.self.now in
    let below = c.in-Some.below.now in
    let level = c.in-Some.level.now in
    let lowest : Bottom = record { below = length below; level = level } in
    let kept = c.loop-level.invariant bindings in
    let still : (b : Bottom) → IsBottom v bindings below b → IsBottom v bindings c.loop-level.left.now b =
    λ b h. rw c.in-Some.ensures.cases.0 (bottom_below v.tables.now v.program.now v.number v.trace.now bindings below level b c.in-Inside.is h) in
    let ended : below ≡ [] → IsBottom v bindings c.loop-level.left.now lowest =
    λ e. rw c.in-Some.ensures.cases.0 (bottom_first v.tables.now v.program.now v.number v.trace.now bindings below level e) in
    (λ b h. kept.0 b (still b h), λ e. kept.0 lowest (ended e))

pub returns-in_default-base : goal.returns-in_default-base
returns-in_default-base c = λ bindings.
    let v = c.args.self.now in
    let below = c.in-Some.below.now in
    let level = c.in-Some.level.now in
    let lowest : Bottom = record { below = length below; level = level } in
    let here : IsBottom v bindings c.loop-level.left.now lowest =
    rw c.in-Some.ensures.cases.0 (bottom_here v.tables.now v.program.now v.number v.trace.now bindings below level c.in_default-base.not-Inside) in
    (c.loop-level.invariant bindings).0 lowest here

pub returns : goal.returns
returns c = λ bindings. (c.loop-level.invariant bindings).1 (no_items c.loop-level.left.now c.in_default.ensures.cases)
