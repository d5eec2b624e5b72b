use Rattle.std.proofs.Common.{◌≡◌, ◌<◌, [], ◌∷◌, Some, sym, ◌∙◌, subst}
use Rattle.fp_events.specs.Step.{actor_part}
use Rattle.fp_actor.specs.Acting.{Acting, AnswersDue}
use Rattle.fp_actor.proofs.Keeping.{kept_more}
use Rattle.fp_actor.proofs.Accepting.{after, kept_after, state_after, told_after}
use Rattle.fp_actor.proofs.actor.Actor.accept.Goals as goal

pub follow-requires-clause-kept : goal.follow-requires-clause-kept
follow-requires-clause-kept c =
    let a = c.self.inside in
    rw (c.as_slice.ensures.value, c.push_reserved.ensures.items)
    (kept_more a.tables.now a.program.now a.number a.trace.items (c.args.entry ∷ []) a.bindings.items a.levels.items c.self.invariant.stack)

pub invariant_of-self : goal.invariant_of-self
invariant_of-self c =
    let a = c.self.inside in
    let e = c.args.entry in
    let v = c.self.invariant in
    let answers = subst (λ (x : Acting). AnswersDue x e) (sym c.self.view_is) c.requires.answers in
    let above = subst (λ (x : Acting). x.state.last < e.stamp) (sym c.self.view_is) c.requires.above in
    let end = c.len-at.ensures ∙ a.trace.ok.0 in
    record {
      handlers = v.handlers;
      home = v.home;
      short = v.short;
      stack =
          kept_after a.tables.now a.program.now a.number a.trace.items a.bindings.items a.levels.items v.stack e a.halted a.last answers c.push_reserved.new.self.items
          c.as_slice.result.now c.len-at.result c.is_assert-self-inside.result c.follow.new.bindings.items c.follow.new.levels.items c.push_reserved.ensures.items
          c.as_slice.ensures.value end c.is_assert-self-inside.ensures c.follow.ensures;
      told =
          told_after a.tables.now a.program.now a.number a.trace.items a.bindings.items a.levels.items v.stack e a.halted a.last answers c.push_reserved.new.self.items
          c.as_slice.result.now c.len-at.result c.is_assert-self-inside.result c.follow.new.bindings.items c.follow.new.levels.items c.push_reserved.ensures.items
          c.as_slice.ensures.value end c.is_assert-self-inside.ensures c.follow.ensures above v.told;
    }

pub returns-clause-state : goal.returns-clause-state
returns-clause-state c =
    let a = c.self.inside in
    let e = c.args.entry in
    let v = c.self.invariant in
    let answers = subst (λ (x : Acting). AnswersDue x e) (sym c.self.view_is) c.requires.answers in
    let end = c.len-at.ensures ∙ a.trace.ok.0 in
    let new =
    after a.tables.now a.program.now a.number a.trace.items a.bindings.items a.levels.items v.stack e a.halted a.last answers c.push_reserved.new.self.items
    c.as_slice.result.now c.len-at.result c.is_assert-self-inside.result c.follow.new.bindings.items c.follow.new.levels.items in
    subst (λ (x : Acting). actor_part x.tables x.program x.number x.state e ≡ Some new) c.self.view_is
    (state_after a.tables.now a.program.now a.number a.trace.items a.bindings.items a.levels.items v.stack e a.halted a.last answers c.push_reserved.new.self.items
    c.as_slice.result.now c.len-at.result c.is_assert-self-inside.result c.follow.new.bindings.items c.follow.new.levels.items c.push_reserved.ensures.items
    c.as_slice.ensures.value end c.is_assert-self-inside.ensures c.follow.ensures)
