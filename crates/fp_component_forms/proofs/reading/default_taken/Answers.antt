use Rattle.std.proofs.Common.{Option, None, refl, sym, ap, ◌∙◌, subst}
use Rattle.fp_base.proofs.Options.{if_ok_then}
use Rattle.fp_tree.specs.declared.expression.Expr.{Expr}
use Rattle.fp_meaning.specs.Layout.{expression_items}
use Rattle.fp_meaning.specs.Names.{in_optional}
use Rattle.fp_meaning.specs.Values.{Val, opened}
use Rattle.fp_type_forms.specs.Resolved.{Takes, value_resolved}
use Rattle.fp_type_forms.proofs.Only.{only_same}
use Rattle.fp_type_forms.proofs.Taking.{taken_expression, taken_nothing}
use Rattle.fp_component_forms.specs.Written.{DefaultIs}
use Rattle.fp_component_forms.proofs.reading.default_taken.Goals as goal

pub returns-in-Some : goal.returns-in-Some
returns-in-Some c =
    if_ok_then c.value_copied.result _ _
    (λ value e source scope.
    subst (λ (x : Option Expr). Takes source c.args.marks.now c.args.resolutions.now (in_optional (expression_items 0 scope) x) c.args.next.now c.taken-found.new.next (DefaultIs source scope x value)) (sym c.in-Some.is)
    (taken_expression source c.args.marks.now c.args.resolutions.now 0 scope c.in-Some.field-0 c.args.next.now c.taken-found.new.next c.taken-found.ensures.moves
    (λ o is only. only_same (Val source scope (opened c.in-Some.field-0)) (e ∙ c.value_of.ensures ∙ ap (value_resolved c.args.marks.now) c.taken-found.ensures.found ∙ is) only)))
    c.value_copied.ensures

pub returns-in-None : goal.returns-in-None
returns-in-None c source scope =
    subst (λ (x : Option Expr). Takes source c.args.marks.now c.args.resolutions.now (in_optional (expression_items 0 scope) x) c.args.next.now c.args.next.now (DefaultIs source scope x None)) (sym c.in-None.is)
    (taken_nothing source c.args.marks.now c.args.resolutions.now c.args.next.now refl)
