use Rattle.std.proofs.Common.{Option, None, sym, subst}
use Rattle.fp_base.specs.Least.{IsLeast, ByOptional}
use Rattle.fp_tree.specs.declared.expression.Expr.{Expr}
use Rattle.fp_meaning.specs.Layout.{value_items}
use Rattle.fp_type_forms.specs.Broken.{IsNoNumber}
use Rattle.fp_type_forms.specs.Resolved.{Takes}
use Rattle.fp_type_forms.proofs.Breaking.{nothing_broken}
use Rattle.fp_part_values.proofs.reading.optional_number.Goals as goal

pub returns-in-Some : goal.returns-in-Some
returns-in-Some c source scope =
    subst (λ (x : Option Expr). Takes source c.args.marks.now c.args.resolutions.now (value_items scope x) c.args.next.now c.number_fault.new.next (IsLeast (ByOptional (IsNoNumber source scope) x) c.number_fault.result)) (sym c.in-Some.is)
    (c.number_fault.ensures source scope 0)

pub returns-in-None : goal.returns-in-None
returns-in-None c source scope =
    subst (λ (x : Option Expr). Takes source c.args.marks.now c.args.resolutions.now (value_items scope x) c.args.next.now c.args.next.now (IsLeast (ByOptional (IsNoNumber source scope) x) None)) (sym c.in-None.is)
    (nothing_broken source c.args.marks.now c.args.resolutions.now c.args.next.now (λ f h. h))
