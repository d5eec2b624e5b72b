use Rattle.std.proofs.Common.{sym, subst}
use Rattle.std.specs.Prelude.{IfOk}
use Rattle.std.specs.Option.{option_copied}
use Rattle.fp_consts.specs.Marked.{MarksOptional}
use Rattle.fp_consts.proofs.Marked.{nothing_more}
use Rattle.fp_consts.proofs.marking.with_optional.Goals as goal

pub returns-in-Some : goal.returns-in-Some
returns-in-Some c =
    subst (λ o. IfOk c.with_expression.result (MarksOptional c.args.table.now c.args.meanings.now (option_copied o) c.args.before)) (sym c.in-Some.is) c.with_expression.ensures

pub returns-in-None : goal.returns-in-None
returns-in-None c =
    subst (λ o. MarksOptional c.args.table.now c.args.meanings.now (option_copied o) c.args.before c.args.before) (sym c.in-None.is)
    (λ source scope given. nothing_more source c.args.before)
