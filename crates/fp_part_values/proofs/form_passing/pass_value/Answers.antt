use Rattle.std.proofs.Common.{Option, sym, subst}
use Rattle.fp_tree.specs.declared.expression.Expr.{Expr}
use Rattle.fp_meaning.specs.Sites.{placed}
use Rattle.fp_meaning.specs.Layout.{value_items}
use Rattle.fp_type_forms.proofs.Taking.{taken_nothing}
use Rattle.fp_part_values.specs.Passed.{Passes}
use Rattle.fp_part_values.proofs.Joining.{moved}
use Rattle.fp_meaning.specs.declared.item.Item.TheVariants as item
use Rattle.fp_part_values.proofs.form_passing.pass_value.Goals as goal

pub returns-in-Some : goal.returns-in-Some
returns-in-Some c source marks scope =
    subst (λ (x : Option Expr). Passes source marks c.args.resolutions.now (value_items scope x) c.args.next.now c.pass_one.new.next) (sym c.in-Some.is)
    (moved source marks c.args.resolutions.now (item.Written 0 (placed scope c.in-Some.field-0)) c.args.next.now c.pass_one.new.next c.pass_one.ensures)

pub returns-in-None : goal.returns-in-None
returns-in-None c source marks scope =
    subst (λ (x : Option Expr). Passes source marks c.args.resolutions.now (value_items scope x) c.args.next.now c.args.next.now) (sym c.in-None.is) (taken_nothing source marks c.args.resolutions.now c.args.next.now tt)
