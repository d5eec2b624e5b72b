use Rattle.std.proofs.Common.{sym, subst}
use Rattle.std.specs.Prelude.{IfOk}
use Rattle.fp_tree.specs.declared.definition.Def.{Def}
use Rattle.fp_model.specs.Given.{AddsDefinition}
use Rattle.fp_model.proofs.Adding.{nothing_more}
use Rattle.fp_model.proofs.constants.with_definition.Goals as goal

pub returns-in-Constant : goal.returns-in-Constant
returns-in-Constant c =
    subst (λ (d : Def). IfOk c.with_constant.result (AddsDefinition c.args.values.now c.args.scope.now d c.args.before)) (sym c.in-Constant.is) c.with_constant.ensures

pub returns-in-Abstract : goal.returns-in-Abstract
returns-in-Abstract c =
    subst (λ (d : Def). AddsDefinition c.args.values.now c.args.scope.now d c.args.before c.args.before) (sym c.in-Abstract.is) (nothing_more c.args.values.now c.args.before)

pub returns-in-Alias : goal.returns-in-Alias
returns-in-Alias c =
    subst (λ (d : Def). AddsDefinition c.args.values.now c.args.scope.now d c.args.before c.args.before) (sym c.in-Alias.is) (nothing_more c.args.values.now c.args.before)

pub returns-in-Array : goal.returns-in-Array
returns-in-Array c =
    subst (λ (d : Def). AddsDefinition c.args.values.now c.args.scope.now d c.args.before c.args.before) (sym c.in-Array.is) (nothing_more c.args.values.now c.args.before)

pub returns-in-Struct : goal.returns-in-Struct
returns-in-Struct c =
    subst (λ (d : Def). AddsDefinition c.args.values.now c.args.scope.now d c.args.before c.args.before) (sym c.in-Struct.is) (nothing_more c.args.values.now c.args.before)

pub returns-in-Enum : goal.returns-in-Enum
returns-in-Enum c =
    subst (λ (d : Def). AddsDefinition c.args.values.now c.args.scope.now d c.args.before c.args.before) (sym c.in-Enum.is) (nothing_more c.args.values.now c.args.before)

pub returns-in-Port : goal.returns-in-Port
returns-in-Port c =
    subst (λ (d : Def). AddsDefinition c.args.values.now c.args.scope.now d c.args.before c.args.before) (sym c.in-Port.is) (nothing_more c.args.values.now c.args.before)
