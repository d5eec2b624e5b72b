use Rattle.fp_base.specs.declared.rule.Rule.TheVariants.{NumberOutOfRange}
use Rattle.fp_base.specs.Least.{broken_at}
use Rattle.fp_base.proofs.Calculus.{least_told}
use Rattle.fp_instances.specs.InstanceBroken.{IsBaseOutside}
use Rattle.fp_instances.proofs.instance_numbers.base_fault.Goals as goal

pub returns : goal.returns
returns c =
    let as_base = c.greatest_base-high.ensures c.args.base.number in
    let as_past = c.is_past-outside.ensures in
    least_told (IsBaseOutside c.args.base.number c.args.top) c.is_past-outside.result (broken_at NumberOutOfRange c.args.base.at) c.refusal_if.result (λ e. as_base.0 (as_past.0 e), λ q. as_past.1 (as_base.1 q)) c.refusal_if.ensures
