use Rattle.std.proofs.Common.{Option, sym, subst}
use Rattle.fp_tree.specs.declared.expression.Expr.{Expr}
use Rattle.fp_meaning.specs.Names.{in_expression, in_optional, uses_of}
use Rattle.fp_meaning.specs.declared.item.Item.{Item}
use Rattle.fp_consts.specs.Laid.{IsPast}
use Rattle.fp_consts.proofs.counting.past_item.Goals as goal

pub returns-in-Defined : goal.returns-in-Defined
returns-in-Defined c =
    subst (λ (x : Item). IsPast (uses_of x) c.args.limit c.args.next c.past_optional.result) (sym c.in-Defined.is)
    (subst (λ (o : Option Expr). IsPast (in_optional (in_expression c.in-Defined.sited.scope) o) c.args.limit c.args.next c.past_optional.result) c.value.ensures
    (c.past_optional.ensures c.in-Defined.sited.scope))

pub returns-in-Enumerated : goal.returns-in-Enumerated
returns-in-Enumerated c =
    subst (λ (x : Item). IsPast (uses_of x) c.args.limit c.args.next c.past_optional-in-Enumerated.result) (sym c.in-Enumerated.is)
    (subst (λ (o : Option Expr). IsPast (in_optional (in_expression c.in-Enumerated.listed.scope) o) c.args.limit c.args.next c.past_optional-in-Enumerated.result) c.value-in-Enumerated.ensures
    (c.past_optional-in-Enumerated.ensures c.in-Enumerated.listed.scope))

pub returns-in-Written : goal.returns-in-Written
returns-in-Written c =
    subst (λ (x : Item). IsPast (uses_of x) c.args.limit c.args.next c.past_expression.result) (sym c.in-Written.is)
    (subst (λ (e : Expr). IsPast (in_expression c.in-Written.expression.scope e) c.args.limit c.args.next c.past_expression.result) c.expression.ensures
    (c.past_expression.ensures c.in-Written.expression.scope))
