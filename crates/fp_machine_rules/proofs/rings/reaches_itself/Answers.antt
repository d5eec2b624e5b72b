use Rattle.std.proofs.Common.{◌∙◌, sym}
use Rattle.fp_machine_rules.proofs.Choices.{reaches_nothing, none_of_length}
use Rattle.fp_machine_rules.proofs.rings.reaches_itself.Goals as goal

pub returns-then-is_empty : goal.returns-then-is_empty
returns-then-is_empty c = reaches_nothing c.args.rows.now _ (sym c.row_of-starts.ensures ∙ none_of_length _ _ c.if-is_empty.true c.is_empty.ensures)
