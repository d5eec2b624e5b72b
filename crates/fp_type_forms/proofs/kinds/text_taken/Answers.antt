use Rattle.std.proofs.Common.{Option, Some, sym, subst}
use Rattle.fp_tables.specs.declared.kind.Kind.TheVariants as kind
use Rattle.fp_tree.specs.declared.expression.Expr.{Expr}
use Rattle.fp_tree.specs.declared.type_name.TypeForm.TheVariants as type
use Rattle.fp_meaning.specs.Layout.{expression_items}
use Rattle.fp_meaning.specs.Names.{in_optional}
use Rattle.fp_type_forms.specs.Written.{IsOnly, KindIs}
use Rattle.fp_type_forms.specs.Resolved.{Takes}
use Rattle.fp_type_forms.proofs.Only.{only_this}
use Rattle.fp_type_forms.proofs.Taking.{taken_nothing, text_sized}
use Rattle.fp_type_forms.proofs.kinds.text_taken.Goals as goal

pub returns-in-None : goal.returns-in-None
returns-in-None c source scope since =
    subst (λ (x : Option Expr). Takes source c.args.marks.now c.args.resolutions.now (in_optional (expression_items since scope) x) c.args.next.now c.args.next.now (IsOnly (KindIs source scope (type.Text x)) (Some (kind.Str 80)))) (sym c.in-None.is) (taken_nothing source c.args.marks.now c.args.resolutions.now c.args.next.now (only_this (kind.Str 80)))

pub returns-in-Some : goal.returns-in-Some
returns-in-Some c source scope since =
    subst (λ (x : Option Expr). Takes source c.args.marks.now c.args.resolutions.now (in_optional (expression_items since scope) x) c.args.next.now c.size_taken.new.next (IsOnly (KindIs source scope (type.Text x)) c.text_of.result)) (sym c.in-Some.is)
    (text_sized source c.args.marks.now c.args.resolutions.now since scope c.in-Some.field-0 c.size_taken.result c.text_of.result c.args.next.now c.size_taken.new.next c.text_of.ensures
    (c.size_taken.ensures source scope since c.in-Some.field-0))
