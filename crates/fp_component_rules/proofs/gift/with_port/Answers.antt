use Rattle.std.proofs.Common.{refl}
use Rattle.fp_component_rules.proofs.Summed.{sums_pushed}
use Rattle.fp_component_rules.proofs.gift.with_port.Goals as goal

pub returns-clause-sums : goal.returns-clause-sums
returns-clause-sums c all sums =
    sums_pushed all c.args.port.now c.args.gift _ c.kinds_in.result c.is_asynchronous.result sums c.in_ok-firsts.ensures c.joined.ensures c.kinds_in.ensures refl c.is_asynchronous.ensures
