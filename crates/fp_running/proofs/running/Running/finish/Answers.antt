use Rattle.std.proofs.Common.{◌≡◌, Bool, true, false, cond, refl, sym, ap, ap₂, ◌∙◌, subst}
use Rattle.fp_events.specs.declared.event.Finish.TheVariants.{Complete, Stuck, Spent, Asserted}
use Rattle.fp_events.specs.Ends.{is_complete}
use Rattle.fp_events.specs.Run.{World}
use Rattle.fp_running.specs.Progress.{Leaves, Progress}
use Rattle.fp_running.proofs.Closed.{ends_as}
use Rattle.fp_running.proofs.running.Running.finish.Goals as goal

pub returns-then-has_assert-clause-end : goal.returns-then-has_assert-clause-end
returns-then-has_assert-clause-end c =
    let r = c.args.self.now in
    ends_as r.tables r.program r.entries c.ends.ensures.end c.keeps.ensures.run c.requires Asserted true (sym c.if-has_assert.true ∙ c.has_assert.ensures) (λ w leaves. refl)

pub returns-then-above-clause-end : goal.returns-then-above-clause-end
returns-then-above-clause-end c =
    let r = c.args.self.now in
    ends_as r.tables r.program r.entries c.ends.ensures.end c.keeps.ensures.run c.requires Spent false (sym c.if-has_assert.false ∙ c.has_assert.ensures)
    (λ w leaves. ap (λ (b : Bool). cond b Spent (cond (is_complete r.tables r.program w) Complete Stuck)) (sym (c.in_ok-above.ensures.above w leaves) ∙ c.if-above.true))

pub returns-then-is_complete-clause-end : goal.returns-then-is_complete-clause-end
returns-then-is_complete-clause-end c =
    let r = c.args.self.now in
    ends_as r.tables r.program r.entries c.ends.ensures.end c.keeps.ensures.run c.requires Complete false (sym c.if-has_assert.false ∙ c.has_assert.ensures)
    (λ w leaves. ap₂ (λ (b d : Bool). cond b Spent (cond d Complete Stuck)) (sym (c.in_ok-above.ensures.above w leaves) ∙ c.if-above.false)
    (sym (subst (λ (q : Progress). (w : World) → Leaves q w → c.is_complete.result ≡ is_complete q.tables q.program w) c.in_ok-above.ensures.same c.is_complete.ensures w leaves) ∙ c.if-is_complete.true))

pub returns-clause-end : goal.returns-clause-end
returns-clause-end c =
    let r = c.args.self.now in
    ends_as r.tables r.program r.entries c.ends.ensures.end c.keeps.ensures.run c.requires Stuck false (sym c.if-has_assert.false ∙ c.has_assert.ensures)
    (λ w leaves. ap₂ (λ (b d : Bool). cond b Spent (cond d Complete Stuck)) (sym (c.in_ok-above.ensures.above w leaves) ∙ c.if-above.false)
    (sym (subst (λ (q : Progress). (w : World) → Leaves q w → c.is_complete.result ≡ is_complete q.tables q.program w) c.in_ok-above.ensures.same c.is_complete.ensures w leaves) ∙ c.if-is_complete.false))
