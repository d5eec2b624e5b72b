use Rattle.fp_base.proofs.Options.{if_ok_then}
use Rattle.fp_machine_rules.proofs.Choices.{ring_told}
use Rattle.fp_machine_rules.proofs.rings.is_on_ring.Goals as goal

pub returns : goal.returns
returns c =
    if_ok_then c.reaches_itself.result _ _ (λ b m. ring_told c.args.items.now c.args.rows.now c.requires.rows c.args.vertex b c.requires.within m) c.reaches_itself.ensures
