use Rattle.std.proofs.Common.{◌∙◌, ap, sym, get_or, ℕ, None, Option}
use Rattle.fp_tables.proofs.Firsts.{position_more}
use Rattle.fp_machine_rules.specs.Repeated.{is_key}
use Rattle.fp_machines.specs.Found.{or_first}
use Rattle.fp_machines.proofs.firsts.first_positions.Goals as goal

pub loop-at-preserved : goal.loop-at-preserved
loop-at-preserved c = λ q.
    let keys = c.args.keys.now in
    c.in_ok-note.ensures q ∙ ap (λ (o : Option ℕ). or_first o (is_key q (get_or keys c.loop-at.at None)) c.loop-at.at) (c.loop-at.invariant q)
    ∙ sym (position_more (is_key q) keys c.loop-at.at None c.loop-at-test.true)
