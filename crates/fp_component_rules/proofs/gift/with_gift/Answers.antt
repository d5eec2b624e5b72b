use Rattle.std.proofs.Common.{◌∙◌, ◌++◌, List, ap, refl}
use Rattle.fp_written_parts.specs.declared.port.WrittenPort.{WrittenPort}
use Rattle.fp_component_rules.specs.Firsts.{of_each_name}
use Rattle.fp_component_rules.proofs.Summed.{sums_joined}
use Rattle.fp_component_rules.proofs.gift.with_gift.Goals as goal

pub returns-clause-sums : goal.returns-clause-sums
returns-clause-sums c all others sums more =
    sums_joined all others c.args.gift c.args.more.now _ sums more
    (c.in_ok-firsts.ensures all sums.firsts ∙ ap (λ (ps : List WrittenPort). of_each_name (all ++ ps)) c.ports.ensures) c.joined.ensures refl
