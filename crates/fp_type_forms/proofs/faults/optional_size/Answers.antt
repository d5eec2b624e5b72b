use Rattle.std.proofs.Common.{Option, None, refl, sym, subst}
use Rattle.fp_base.specs.Least.{IsLeast}
use Rattle.fp_tree.specs.declared.expression.Expr.{Expr}
use Rattle.fp_meaning.specs.Layout.{expression_items}
use Rattle.fp_meaning.specs.Names.{in_optional}
use Rattle.fp_type_forms.specs.Broken.{BrokenBySize, ByOptional}
use Rattle.fp_type_forms.specs.Resolved.{Takes}
use Rattle.fp_type_forms.proofs.Breaking.{nothing_broken}
use Rattle.fp_type_forms.proofs.faults.optional_size.Goals as goal

pub returns-in-Some : goal.returns-in-Some
returns-in-Some c source scope since =
    subst (λ (x : Option Expr). Takes source c.args.marks.now c.args.resolutions.now (in_optional (expression_items since scope) x) c.args.next.now c.expression_size.new.next (IsLeast (ByOptional (BrokenBySize source scope c.args.rule c.args.most) x) c.expression_size.result)) (sym c.in-Some.is)
    (c.expression_size.ensures source scope since c.in-Some.size refl)

pub returns-in-None : goal.returns-in-None
returns-in-None c source scope since =
    subst (λ (x : Option Expr). Takes source c.args.marks.now c.args.resolutions.now (in_optional (expression_items since scope) x) c.args.next.now c.args.next.now (IsLeast (ByOptional (BrokenBySize source scope c.args.rule c.args.most) x) None)) (sym c.in-None.is)
    (nothing_broken source c.args.marks.now c.args.resolutions.now c.args.next.now (λ f h. h))
