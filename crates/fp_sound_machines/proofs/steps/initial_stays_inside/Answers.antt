use Rattle.std.proofs.Common.{suc, length, ap, sym, ◌∙◌}
use Rattle.fp_tables.specs.Machines.{reached}
use Rattle.fp_sound_machines.specs.Behind.{span_is_inside}
use Rattle.fp_sound_machines.specs.declared.choices.Behind.{Behind}
use Rattle.fp_sound_machines.proofs.Insides.{span_in}
use Rattle.fp_sound_machines.proofs.steps.initial_stays_inside.Goals as goal

pub returns-in-Some : goal.returns-in-Some
returns-in-Some c =
    let vs = c.args.vertices.now in
    let found = ap (λ (b : Behind). b.states) c.found_behind-behind.ensures ∙ sym (c.requires.states c.in-Some.step.target) in
    rw c.in-Some.is (
    c.span_is_inside.ensures ∙ ap (span_is_inside vs c.args.state) found ∙ sym (span_in vs c.requires.ordered c.args.state (reached vs (suc (length vs)) c.in-Some.step.target))
    )
