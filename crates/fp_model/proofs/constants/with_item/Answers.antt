use Rattle.std.proofs.Common.{Option, sym, subst}
use Rattle.std.specs.Prelude.{IfOk}
use Rattle.fp_tree.specs.declared.definition.Def.{Def}
use Rattle.fp_tree.specs.declared.expression.Expr.{Expr}
use Rattle.fp_meaning.specs.declared.item.Item.{Item}
use Rattle.fp_meaning.specs.Names.{Path}
use Rattle.fp_model.specs.Given.{AddsDefinition, AddsItem, Passes}
use Rattle.fp_model.proofs.Adding.{nothing_more, past_one}
use Rattle.fp_model.proofs.constants.with_item.Goals as goal

pub returns-in-Defined : goal.returns-in-Defined
returns-in-Defined c =
    subst (λ (x : Item). IfOk c.with_definition.result (AddsItem c.args.values.now x c.args.before)) (sym c.in-Defined.is)
    (subst (λ (s : Path). IfOk c.with_definition.result (AddsDefinition c.args.values.now s c.in-Defined.sited.definition c.args.before)) c.scope-scope.ensures
    (subst (λ (d : Def). IfOk c.with_definition.result (AddsDefinition c.args.values.now c.scope-scope.result.now d c.args.before)) c.definition-definition.ensures c.with_definition.ensures))

pub returns-in-Enumerated : goal.returns-in-Enumerated
returns-in-Enumerated c =
    subst (λ (x : Item). AddsItem c.args.values.now x c.args.before c.past_optional.result) (sym c.in-Enumerated.is)
    (subst (λ (o : Option Expr). Passes c.args.values.now o c.args.before c.past_optional.result) c.value.ensures c.past_optional.ensures c.in-Enumerated.listed.scope)

pub returns-in-Declared : goal.returns-in-Declared
returns-in-Declared c = subst (λ (x : Item). AddsItem c.args.values.now x c.args.before c.args.before) (sym c.in-Declared.is) (nothing_more c.args.values.now c.args.before)

pub returns-in-Used : goal.returns-in-Used
returns-in-Used c = subst (λ (x : Item). AddsItem c.args.values.now x c.args.before c.args.before) (sym c.in-Used.is) (nothing_more c.args.values.now c.args.before)

pub returns-in-Written : goal.returns-in-Written
returns-in-Written c =
    subst (λ (x : Item). AddsItem c.args.values.now x c.args.before c.past.result) (sym c.in-Written.is)
    (past_one c.args.values.now _ c.args.before c.past.result c.past.ensures.constants c.past.ensures.next)
