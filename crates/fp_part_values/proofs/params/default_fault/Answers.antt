use Rattle.std.proofs.Common.{Option, None, sym, ap, ◌∙◌, subst}
use Rattle.fp_base.specs.declared.value.Value.{Value}
use Rattle.fp_base.specs.Least.{ByOptional, IsLeast}
use Rattle.fp_tree.specs.declared.expression.Expr.{Expr}
use Rattle.fp_meaning.specs.Layout.{value_items}
use Rattle.fp_type_forms.specs.Resolved.{Takes, value_resolved}
use Rattle.fp_type_forms.specs.Written.{KindIs}
use Rattle.fp_type_forms.proofs.Breaking.{nothing_broken}
use Rattle.fp_type_forms.proofs.Taking.{taken_expression}
use Rattle.fp_part_values.specs.Broken.{IsUnfit}
use Rattle.fp_part_values.specs.Tested.{MisfitsIf}
use Rattle.fp_part_values.proofs.Fits.{unfit_least}
use Rattle.fp_part_values.proofs.params.default_fault.Goals as goal

pub returns-in-Some : goal.returns-in-Some
returns-in-Some c source scope form wanted =
    let ws = c.args.types.now in
    let marks = c.args.marks.now in
    let rs = c.args.resolutions.now in
    let e = c.in-Some.default in
    subst (λ (x : Option Expr). Takes source marks rs (value_items scope x) c.args.next.now c.taken-found.new.next (IsLeast (ByOptional (IsUnfit source ws scope (KindIs source scope form)) x) c.misfit_of.result)) (sym c.in-Some.is)
    (taken_expression source marks rs 0 scope e c.args.next.now c.taken-found.new.next c.taken-found.ensures.moves
    (λ o is only. unfit_least source ws scope (KindIs source scope form) e c.args.kind o c.misfit_of.result wanted only
    (subst (λ (v : Option Value). IsLeast (MisfitsIf ws e.at.first c.args.kind v) c.misfit_of.result) (c.value_of-value.ensures ∙ ap (value_resolved marks) c.taken-found.ensures.found ∙ is) c.misfit_of.ensures)))

pub returns-in-None : goal.returns-in-None
returns-in-None c source scope form wanted =
    subst (λ (x : Option Expr). Takes source c.args.marks.now c.args.resolutions.now (value_items scope x) c.args.next.now c.args.next.now (IsLeast (ByOptional (IsUnfit source c.args.types.now scope (KindIs source scope form)) x) None)) (sym c.in-None.is)
    (nothing_broken source c.args.marks.now c.args.resolutions.now c.args.next.now (λ f h. h))
