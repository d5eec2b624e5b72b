use Rattle.std.proofs.Common.{Option, slice_get, sym, ap, ◌∙◌, subst}
use Rattle.fp_base.proofs.Options.{if_ok_then}
use Rattle.fp_tree.specs.declared.expression.Expr.{Expr}
use Rattle.fp_meaning.specs.Layout.{expression_items}
use Rattle.fp_meaning.specs.Names.{in_optional}
use Rattle.fp_type_sizes.specs.declared.written.Own.TheVariants as own
use Rattle.fp_type_forms.proofs.Taking.{taken_expression, own_valued, taken_nothing}
use Rattle.fp_type_forms.specs.Written.{OwnIs}
use Rattle.fp_type_forms.specs.Resolved.{Takes, own_with, value_resolved}
use Rattle.fp_type_forms.proofs.reading.own_taken.Goals as goal

pub returns-in-Some : goal.returns-in-Some
returns-in-Some c =
    if_ok_then c.own_of.result _ _
    (λ own e source scope since.
    subst (λ (x : Option Expr). Takes source c.args.marks.now c.args.resolutions.now (in_optional (expression_items since scope) x) c.args.next.now c.taken-found.new.next (OwnIs source scope x own)) (sym c.in-Some.is)
    (taken_expression source c.args.marks.now c.args.resolutions.now since scope c.in-Some.field-0 c.args.next.now c.taken-found.new.next c.taken-found.ensures.moves
    (λ o is only. own_valued source c.args.marks.now c.args.resolutions.now scope c.in-Some.field-0 o own (value_resolved c.args.marks.now (slice_get c.args.resolutions.now c.args.next.now)) is
    (e ∙ ap own_with (c.value_of.ensures ∙ ap (value_resolved c.args.marks.now) c.taken-found.ensures.found)) only)))
    c.own_of.ensures

pub returns-in-None : goal.returns-in-None
returns-in-None c source scope since =
    subst (λ (x : Option Expr). Takes source c.args.marks.now c.args.resolutions.now (in_optional (expression_items since scope) x) c.args.next.now c.args.next.now (OwnIs source scope x own.Unwritten)) (sym c.in-None.is)
    (taken_nothing source c.args.marks.now c.args.resolutions.now c.args.next.now tt)
