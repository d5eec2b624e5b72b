use Rattle.std.proofs.Common.{ℕ, Option, Some, None, sym, subst}
use Rattle.fp_tree.specs.declared.expression.Expr.{Expr}
use Rattle.fp_meaning.specs.Layout.{expression_items}
use Rattle.fp_meaning.specs.Names.{in_optional}
use Rattle.fp_type_forms.specs.Written.{IsOnly, IsArraySize, SizeIs}
use Rattle.fp_type_forms.specs.Resolved.{Takes}
use Rattle.fp_type_forms.proofs.Only.{only_this, only_same, only_mapped}
use Rattle.fp_type_forms.proofs.Taking.{taken_nothing, taken_as}
use Rattle.fp_type_forms.proofs.fields.member_size.Goals as goal

pub returns-in-None : goal.returns-in-None
returns-in-None c source scope =
    subst (λ (x : Option Expr). Takes source c.args.marks.now c.args.resolutions.now (in_optional (expression_items 0 scope) x) c.args.next.now c.args.next.now (IsOnly (SizeIs source scope x) (Some None))) (sym c.in-None.is)
    (taken_nothing source c.args.marks.now c.args.resolutions.now c.args.next.now (only_this None))

pub returns-in-Some : goal.returns-in-Some
returns-in-Some c source scope =
    subst (λ (x : Option Expr). Takes source c.args.marks.now c.args.resolutions.now (in_optional (expression_items 0 scope) x) c.args.next.now c.size_taken.new.next (IsOnly (SizeIs source scope x) c.size_found.result)) (sym c.in-Some.is)
    (taken_as source c.args.marks.now c.args.resolutions.now (expression_items 0 scope c.in-Some.field-0) c.args.next.now c.size_taken.new.next
    (λ only. only_same (SizeIs source scope (Some c.in-Some.field-0)) c.size_found.ensures (only_mapped (IsArraySize source scope c.in-Some.field-0) (λ (n : ℕ). Some n) c.size_taken.result only))
    (c.size_taken.ensures source scope 0 c.in-Some.field-0))
