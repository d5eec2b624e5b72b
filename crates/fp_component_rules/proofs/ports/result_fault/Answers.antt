use Rattle.fp_base.specs.declared.rule.Rule.TheVariants.{AsyncWithReturn}
use Rattle.fp_base.specs.Least.{broken_at}
use Rattle.fp_base.proofs.Calculus.{least_told}
use Rattle.fp_component_rules.specs.PortBroken.{HasResult}
use Rattle.fp_component_rules.proofs.ports.result_fault.Goals as goal

pub returns : goal.returns
returns c =
    least_told (HasResult c.args.definitions.now c.args.of) c.has_result.result (broken_at AsyncWithReturn c.args.place) c.refusal_if.result c.has_result.ensures c.refusal_if.ensures
