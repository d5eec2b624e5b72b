use Rattle.std.proofs.Common.{◌≡◌, None}
use Rattle.fp_base.specs.declared.rule.Rule.TheVariants.{SpecialPort}
use Rattle.fp_base.specs.Least.{broken_at}
use Rattle.fp_base.proofs.Calculus.{least_told}
use Rattle.fp_base.proofs.Options.{none_told}
use Rattle.fp_component_rules.proofs.ports.special_fault.Goals as goal

pub returns : goal.returns
returns c =
    least_told (c.args.of ≡ None) c.is_none.result (broken_at SpecialPort c.args.place) c.refusal_if.result (none_told c.args.of c.is_none.result c.is_none.ensures) c.refusal_if.ensures
