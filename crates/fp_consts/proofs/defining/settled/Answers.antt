use Rattle.std.proofs.Common.{Option, None, sym, subst}
use Rattle.std.specs.Prelude.{IfOk}
use Rattle.fp_base.proofs.Options.{if_ok_then}
use Rattle.fp_tree.specs.declared.expression.Expr.{Expr}
use Rattle.fp_meaning.specs.declared.item.Item.{Item}
use Rattle.fp_consts.specs.Settled.{Settles, SettlesWith}
use Rattle.fp_consts.proofs.Valued.{declared_settled, defined_settled, enumerated_settled}
use Rattle.fp_consts.proofs.defining.settled.Goals as goal

pub returns-in-Defined : goal.returns-in-Defined
returns-in-Defined c =
    subst (λ (x : Item). IfOk c.value_of.result (Settles c.args.table.now c.args.meanings.now x c.args.next)) (sym c.in-Defined.is)
    (if_ok_then c.value_of.result _ _ (λ o is. defined_settled c.args.table.now c.args.meanings.now c.in-Defined.sited c.args.next o is)
    (subst (λ (v : Option Expr). IfOk c.value_of.result (SettlesWith c.args.table.now c.args.meanings.now v c.args.next)) c.value.ensures c.value_of.ensures))

pub returns-in_ok-number-in-Enumerated : goal.returns-in_ok-number-in-Enumerated
returns-in_ok-number-in-Enumerated c =
    subst (λ (x : Item). IfOk c.enumerated.result (Settles c.args.table.now c.args.meanings.now x c.args.next)) (sym c.in-Enumerated.is)
    (if_ok_then c.enumerated.result _ _
    (λ o is. enumerated_settled c.args.table.now c.args.meanings.now c.in-Enumerated.listed c.args.next c.in_ok-number-in-Enumerated.number o c.in_ok-number-in-Enumerated.ensures is)
    c.enumerated.ensures)

pub returns-in-Declared : goal.returns-in-Declared
returns-in-Declared c =
    subst (λ (x : Item). Settles c.args.table.now c.args.meanings.now x c.args.next None) (sym c.in-Declared.is)
    (declared_settled c.args.table.now c.args.meanings.now c.in-Declared.field-0 c.args.next)
