use Rattle.std.proofs.Common.{sym, ◌∙◌}
use Rattle.fp_base.proofs.Options.{if_ok_then}
use Rattle.fp_machine_rules.proofs.Choices.{leaving_told, leaving_none}
use Rattle.fp_machine_rules.proofs.rings.is_leaving.Goals as goal

pub returns-in-Some : goal.returns-in-Some
returns-in-Some c =
    if_ok_then c.escapes.result _ _
    (λ b m.
    leaving_told c.args.items.now c.args.vertex c.item_of-item.result c.in-Some.target b c.item_of-item.ensures (sym c.initial_target.ensures ∙ c.in-Some.is) m)
    c.escapes.ensures

pub returns-in-None : goal.returns-in-None
returns-in-None c = leaving_none c.args.items.now c.args.vertex c.item_of-item.result c.item_of-item.ensures (sym c.initial_target.ensures ∙ c.in-None.is)
