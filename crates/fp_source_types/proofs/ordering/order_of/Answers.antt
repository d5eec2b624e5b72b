use Rattle.std.proofs.Common.{◌∙◌}
use Rattle.fp_source_types.proofs.Serving.{served}
use Rattle.fp_source_types.proofs.ordering.order_of.Goals as goal

pub returns : goal.returns
returns c =
    served c.args.types.now c.as_slice-used.result.now (c.as_slice-used.ensures.value ∙ c.in_ok-rows.ensures) c.in_ok-chained.chained.order.items c.in_ok-chained.ensures.order
