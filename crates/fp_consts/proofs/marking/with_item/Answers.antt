use Rattle.std.proofs.Common.{Option, sym, subst}
use Rattle.std.specs.Prelude.{IfOk}
use Rattle.fp_base.proofs.Options.{if_ok_then}
use Rattle.fp_tree.specs.declared.expression.Expr.{Expr}
use Rattle.fp_meaning.specs.declared.item.Item.{Item}
use Rattle.fp_consts.specs.Marked.{MarksExpression, MarksItem, MarksOptional}
use Rattle.fp_consts.proofs.Marked.{nothing_more, past_type}
use Rattle.fp_consts.proofs.marking.with_item.Goals as goal

pub returns-in-Defined : goal.returns-in-Defined
returns-in-Defined c =
    subst (λ (x : Item). IfOk c.with_optional.result (MarksItem c.args.table.now c.args.meanings.now x c.args.before)) (sym c.in-Defined.is)
    (if_ok_then c.with_optional.result _ _ (λ after adds source given. adds source c.in-Defined.sited.scope given)
    (subst (λ (o : Option Expr). IfOk c.with_optional.result (MarksOptional c.args.table.now c.args.meanings.now o c.args.before)) c.value.ensures c.with_optional.ensures))

pub returns-in-Enumerated : goal.returns-in-Enumerated
returns-in-Enumerated c =
    subst (λ (x : Item). IfOk c.with_optional-in-Enumerated.result (MarksItem c.args.table.now c.args.meanings.now x c.args.before)) (sym c.in-Enumerated.is)
    (if_ok_then c.with_optional-in-Enumerated.result _ _ (λ after adds source given. adds source c.in-Enumerated.listed.scope given)
    (subst (λ (o : Option Expr). IfOk c.with_optional-in-Enumerated.result (MarksOptional c.args.table.now c.args.meanings.now o c.args.before)) c.value-in-Enumerated.ensures c.with_optional-in-Enumerated.ensures))

pub returns-in-Declared : goal.returns-in-Declared
returns-in-Declared c =
    subst (λ (x : Item). MarksItem c.args.table.now c.args.meanings.now x c.args.before c.args.before) (sym c.in-Declared.is)
    (λ source given. nothing_more source c.args.before)

pub returns-in-Used : goal.returns-in-Used
returns-in-Used c =
    subst (λ (x : Item). MarksItem c.args.table.now c.args.meanings.now x c.args.before c.past_use.result) (sym c.in-Used.is)
    (λ source given. past_type source c.args.table.now c.args.meanings.now _ c.args.before c.past_use.result given c.past_use.ensures.at c.past_use.ensures.first c.past_use.ensures.next)

pub returns-in-Written : goal.returns-in-Written
returns-in-Written c =
    subst (λ (x : Item). IfOk c.with_expression.result (MarksItem c.args.table.now c.args.meanings.now x c.args.before)) (sym c.in-Written.is)
    (if_ok_then c.with_expression.result _ _ (λ after adds source given. adds source c.in-Written.expression.scope given)
    (subst (λ (e : Expr). IfOk c.with_expression.result (MarksExpression c.args.table.now c.args.meanings.now e c.args.before)) c.expression.ensures c.with_expression.ensures))
