use Rattle.std.proofs.Common.{◌≡◌, ◌∙◌, ap, sym, subst, ℕ, Bool, None, true, is_some, BTreeMap, refl, ◌==◌}
use Rattle.std.specs.BTreeMap.{get_by, is_at as is_key}
use Rattle.fp_tables.specs.declared.program.Handler.{Handler}
use Rattle.fp_tables.specs.declared.program.Spot.TheVariants as spot
use Rattle.fp_actor.specs.Found.{is_at}
use Rattle.fp_base.proofs.Options.{none_of}
use Rattle.fp_tables.proofs.Firsts.{position_at, filled, kept}
use Rattle.fp_tables.specs.Found.{pair_cmp}
use Rattle.fp_actor.proofs.Finding.{same_port, pair_key, other_port}
use Rattle.fp_actor.proofs.handlers.ports_of.Goals as goal
use Rattle.fp_actor.proofs.handlers.ports_of.Goals.{in-Port+then-not-contains_key+in_ok-insert, in-Port+else-not-contains_key, in_default}

pub loop-at-preserved : goal.loop-at-preserved
loop-at-preserved c = λ q.
    let ports = c.loop-at.ports in
    let h : Handler = c.index-handlers-at.result in
    let test : Handler → Bool = is_at q.0 (spot.Port q.1) in
    let more = position_at test c.args.handlers.now c.loop-at.at h c.loop-at-test.true c.index-handlers-at.is in
    elim c.match-handler.branch [
      | in-Port+then-not-contains_key+in_ok-insert w ↦
          let key : ℕ × ℕ = (h.instance, w.in-Port.port) in
          let free : get_by (pair_cmp key) ports ≡ None = none_of _ (cc) in
          ap (λ (m : BTreeMap (ℕ × ℕ) ℕ). get_by (pair_cmp q) m) w.ports-is ∙ filled _ (get_by (pair_cmp q) ports) _ (is_key (pair_cmp key) q) (test h) c.loop-at.at
          (w.in_ok-insert.ensures.updates.0 q) (c.loop-at.invariant q) (same_port h w.in-Port.port q w.in-Port.is)
          (λ e. subst (λ k. get_by (pair_cmp k) ports ≡ None) (pair_key h.instance w.in-Port.port q e) free) ∙ sym more
      | in-Port+else-not-contains_key w ↦
          let key : ℕ × ℕ = (h.instance, w.in-Port.port) in
          let full : is_some (get_by (pair_cmp key) ports) ≡ true = cc in
          ap (λ (m : BTreeMap (ℕ × ℕ) ℕ). get_by (pair_cmp q) m) w.ports-is ∙ kept _ (get_by (pair_cmp q) ports) _ (test h) c.loop-at.at
          refl (c.loop-at.invariant q) (λ e. subst (λ k. is_some (get_by (pair_cmp k) ports) ≡ true) (pair_key h.instance w.in-Port.port q (same_port h w.in-Port.port q w.in-Port.is ∙ e)) full) ∙ sym more
      | in_default w ↦
          ap (λ (m : BTreeMap (ℕ × ℕ) ℕ). get_by (pair_cmp q) m) w.ports-is ∙ kept _ (get_by (pair_cmp q) ports) _ (test h) c.loop-at.at
          refl (c.loop-at.invariant q) (λ e. absurd (other_port (h.instance == q.0) h.place q.1 w.in_default.not-Port e)) ∙ sym more
    ]
