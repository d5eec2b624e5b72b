use Rattle.std.proofs.Common.{◌≡◌, ◌∙◌, ℕ, Option, ap}
use Rattle.fp_machine_rules.specs.declared.item.Form.TheVariants.{On}
use Rattle.fp_machine_rules.specs.declared.item.Target.{Target}
use Rattle.fp_machines.specs.Scopes.{signal_meant}
use Rattle.fp_machines.specs.Steps.{way_target}
use Rattle.fp_machines.proofs.laying.on_form.Goals as goal

pub returns : goal.returns
returns c = λ es a.
    let items = c.args.items.now in
    let goes = way_target es items c.args.parent c.args.on.now.transition in
    ap (λ (t : Target). On c.own_number_of-signal.result c.signal.result t) (c.way_target.ensures es a)
    ∙ (ap (λ (m : Option ℕ). On c.own_number_of-signal.result m goes) (c.signal.ensures es items a)
    ∙ ap (λ (k : ℕ). On k (signal_meant items k) goes) (c.own_number_of-signal.ensures es a.spellings))
