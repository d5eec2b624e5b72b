use Rattle.std.proofs.Common.{◌≡◌, ℕ, Bool, ◌&&◌, not, ◌∙◌, ap, sym, refl, get_or}
use Rattle.fp_scenario.specs.declared.scenario.Scenario.{Scenario}
use Rattle.fp_scenario_check.specs.Planned.{is_of, has_own}
use Rattle.fp_scenario_check.proofs.Among.{kept_more, left_out, kept_all}
use Rattle.fp_scenario_check.proofs.standing.instances_among.Goals as goal
use Rattle.fp_scenario_check.proofs.standing.instances_among.Goals.{then-free+in_ok-push, else-free}

pub loop-instance-preserved : goal.loop-instance-preserved
loop-instance-preserved c = λ scenario owns.
    let p : ℕ → Bool = λ i. is_of c.args.tables.now c.args.text.now.of i && not (has_own c.args.tables.now scenario c.args.text.now.on_ i) in
    let x = get_or c.args.instances.now c.loop-instance.instance-index 0 in
    elim c.if-free.branch [
      | then-free+in_ok-push w ↦
          ap (λ v. v.items) w.found-is ∙ kept_more p c.args.instances.now c.loop-instance.instance-index x 0 c.loop-instance.found.items w.push.new.self.items c.loop-instance-test.true refl
          (sym (c.is_free-free.ensures scenario owns) ∙ w.if-free.true) w.in_ok-push.ensures.items (c.loop-instance.invariant scenario owns)
      | else-free w ↦
          ap (λ v. v.items) w.found-is ∙ left_out p c.args.instances.now c.loop-instance.instance-index x 0 c.loop-instance.found.items c.loop-instance-test.true refl
          (sym (c.is_free-free.ensures scenario owns) ∙ w.if-free.false) (c.loop-instance.invariant scenario owns)
    ]

pub returns : goal.returns
returns c = λ scenario owns.
    kept_all (λ i. is_of c.args.tables.now c.args.text.now.of i && not (has_own c.args.tables.now scenario c.args.text.now.on_ i)) c.args.instances.now c.loop-instance.instance-index c.loop-instance.found.items c.loop-instance-test.false (c.loop-instance.invariant scenario owns)
