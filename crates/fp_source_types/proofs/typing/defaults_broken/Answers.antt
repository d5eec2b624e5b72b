use Rattle.std.proofs.Common.{Option, ◌∙◌}
use Rattle.fp_tree.specs.declared.expression.Expr.{Expr}
use Rattle.fp_tree.specs.declared.name.Name.{Name}
use Rattle.fp_types.specs.Faults.{IsBadDefault}
use Rattle.fp_source_types.specs.Places.{behind_default}
use Rattle.fp_source_types.proofs.Placed.{least_at}
use Rattle.fp_source_types.proofs.typing.defaults_broken.Goals as goal

pub returns : goal.returns
returns c =
    least_at (λ (n : Name) (e : Option Expr). behind_default n.at.first e) (IsBadDefault c.args.types.now) c.args.items.now c.as_slice-places.result.now c.bad_defaults.result
    (c.as_slice-places.ensures ∙ c.in_ok-row.ensures) c.bad_defaults.ensures
