use Rattle.std.proofs.Common.{◌∙◌}
use Rattle.fp_base.proofs.Options.{if_ok_then}
use Rattle.fp_model.proofs.Numbering.{order_behind_nothing}
use Rattle.fp_model.proofs.ordering.order_among.Goals as goal

pub returns : goal.returns
returns c = if_ok_then c.ordered.result _ _ (λ row is. is ∙ order_behind_nothing c.args.items.now) c.ordered.ensures
