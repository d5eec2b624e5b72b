use Rattle.fp_base.proofs.Options.{if_ok_then}
use Rattle.fp_type_sizes.proofs.Earlier.{ordered_as_they_stand}
use Rattle.fp_type_sizes.proofs.order.own_order.Goals as goal

pub returns : goal.returns
returns c = if_ok_then c.numbers_below.result _ _ (λ numbers are. ordered_as_they_stand c.args.types.now c.requires numbers.items are) c.numbers_below.ensures
