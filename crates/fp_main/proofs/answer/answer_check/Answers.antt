use Rattle.fp_main.proofs.Dues.{due_listing}
use Rattle.fp_main.proofs.answer.answer_check.Goals as goal

pub returns : goal.returns
returns c words names check =
    due_listing words names c.args.model.now c.done.result c.in_ok-output.output c.done.ensures c.in_ok-output.ensures check
