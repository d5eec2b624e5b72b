use Rattle.std.proofs.Common.{refl}
use Rattle.fp_component_rules.proofs.gift.nothing.Goals as goal

pub returns-clause-sums : goal.returns-clause-sums
returns-clause-sums c = record { firsts = c.new.ensures; kinds = c.none.ensures; asynchronous = refl }
