use Rattle.std.proofs.Common.{Option, ◌∙◌}
use Rattle.fp_tree.specs.declared.expression.Expr.{Expr}
use Rattle.fp_tree.specs.declared.name.Name.{Name}
use Rattle.fp_type_sizes.specs.Large.{IsTypeLarge}
use Rattle.fp_source_types.proofs.Placed.{least_at}
use Rattle.fp_source_types.proofs.typing.sizes_broken.Goals as goal

pub returns : goal.returns
returns c =
    least_at (λ (n : Name) (e : Option Expr). n.at.first) (IsTypeLarge c.args.types.now) c.args.items.now c.as_slice-places.result.now c.large_types.result
    (c.as_slice-places.ensures ∙ c.in_ok-row.ensures) c.large_types.ensures
