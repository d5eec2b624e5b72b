use Rattle.std.proofs.Common.{◌≡◌, ◌∙◌, ap, sym, subst, ℕ, Bool, None, true, is_some, BTreeMap, refl, ◌==◌}
use Rattle.std.specs.BTreeMap.{get_by, is_at as is_key}
use Rattle.fp_tables.specs.declared.program.Handler.{Handler}
use Rattle.fp_tables.specs.declared.program.Spot.TheVariants as spot
use Rattle.fp_actor.specs.Found.{is_at}
use Rattle.fp_base.proofs.Options.{none_of}
use Rattle.fp_tables.proofs.Firsts.{position_at, filled, kept}
use Rattle.fp_tables.specs.Found.{key_cmp}
use Rattle.fp_actor.proofs.Finding.{same_action, triple_key, other_action}
use Rattle.fp_actor.proofs.handlers.actions_of.Goals as goal
use Rattle.fp_actor.proofs.handlers.actions_of.Goals.{in-Action+then-not-contains_key+in_ok-insert, in-Action+else-not-contains_key, in_default}

pub loop-at-preserved : goal.loop-at-preserved
loop-at-preserved c = λ q.
    let actions = c.loop-at.actions in
    let h : Handler = c.index-handlers-at.result in
    let test : Handler → Bool = is_at q.0 (spot.Action q.1 q.2) in
    let more = position_at test c.args.handlers.now c.loop-at.at h c.loop-at-test.true c.index-handlers-at.is in
    elim c.match-handler.branch [
      | in-Action+then-not-contains_key+in_ok-insert w ↦
          let key : ℕ × ℕ × ℕ = (h.instance, w.in-Action.running, w.in-Action.action) in
          let free : get_by (key_cmp key) actions ≡ None = none_of _ (cc) in
          ap (λ (m : BTreeMap (ℕ × ℕ × ℕ) ℕ). get_by (key_cmp q) m) w.actions-is ∙ filled _ (get_by (key_cmp q) actions) _ (is_key (key_cmp key) q) (test h) c.loop-at.at
          (w.in_ok-insert.ensures.updates.0 q) (c.loop-at.invariant q) (same_action h w.in-Action.running w.in-Action.action q w.in-Action.is)
          (λ e. subst (λ k. get_by (key_cmp k) actions ≡ None) (triple_key h.instance w.in-Action.running w.in-Action.action q e) free) ∙ sym more
      | in-Action+else-not-contains_key w ↦
          let key : ℕ × ℕ × ℕ = (h.instance, w.in-Action.running, w.in-Action.action) in
          let full : is_some (get_by (key_cmp key) actions) ≡ true = cc in
          ap (λ (m : BTreeMap (ℕ × ℕ × ℕ) ℕ). get_by (key_cmp q) m) w.actions-is ∙ kept _ (get_by (key_cmp q) actions) _ (test h) c.loop-at.at
          refl (c.loop-at.invariant q) (λ e. subst (λ k. is_some (get_by (key_cmp k) actions) ≡ true) (triple_key h.instance w.in-Action.running w.in-Action.action q (same_action h w.in-Action.running w.in-Action.action q w.in-Action.is ∙ e)) full) ∙ sym more
      | in_default w ↦
          ap (λ (m : BTreeMap (ℕ × ℕ × ℕ) ℕ). get_by (key_cmp q) m) w.actions-is ∙ kept _ (get_by (key_cmp q) actions) _ (test h) c.loop-at.at
          refl (c.loop-at.invariant q) (λ e. absurd (other_action (h.instance == q.0) h.place q.1 q.2 w.in_default.not-Action e)) ∙ sym more
    ]
