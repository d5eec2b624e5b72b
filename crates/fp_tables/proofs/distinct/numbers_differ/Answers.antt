use Rattle.std.proofs.Common.{◌∙◌}
use Rattle.std.proofs.lemmas.Result.{IfOk-weaker}
use Rattle.fp_tables.proofs.Differing.{differ_numbers}
use Rattle.fp_tables.proofs.distinct.numbers_differ.Goals as goal

pub returns : goal.returns
returns c = IfOk-weaker c.all_differ.result _ _ (λ b p. p ∙ differ_numbers c.args.numbers.items) c.all_differ.ensures
