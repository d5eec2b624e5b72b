use Rattle.std.proofs.Common.{sym, ap, ◌∙◌}
use Rattle.fp_scenario_actions.specs.Named.{placed_named}
use Rattle.fp_scenario_check.proofs.Owning.{noted}
use Rattle.fp_scenario_check.proofs.owned.note.Goals as goal

pub returns-in_ok-insert-in-Some : goal.returns-in_ok-insert-in-Some
returns-in_ok-insert-in-Some c =
    noted c.args.tables.now c.args.text.now c.args.owned.now c.insert.new.self (c.in-Some.instance, c.as_str-in-Some.result)
    (sym (c.in-Some.ensures ∙ ap (placed_named c.args.tables.now) c.as_str.ensures)) c.as_str-in-Some.ensures c.in_ok-insert-in-Some.ensures.keys
