use Rattle.fp_consts.proofs.Marked.{one_expression}
use Rattle.fp_consts.proofs.marking.with_expression.Goals as goal
use Rattle.fp_base.proofs.Options.{if_ok_then}

pub returns : goal.returns
returns c =
    if_ok_then c.with_found.result _ _
    (λ after adds. one_expression c.args.table.now c.args.meanings.now c.args.expression.now c.args.before c.in_ok-found.found after c.in_ok-found.ensures adds) c.with_found.ensures
