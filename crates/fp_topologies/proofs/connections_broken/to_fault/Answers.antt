use Rattle.std.proofs.Common.{◌≡◌, None, sym}
use Rattle.fp_base.specs.declared.rule.Rule.TheVariants.{BadDirection, PortMissing}
use Rattle.fp_base.specs.Least.{broken_at}
use Rattle.fp_base.proofs.Calculus.{least_along, least_either, least_told}
use Rattle.fp_base.proofs.Options.{none_told}
use Rattle.fp_tables.specs.Lookup.{is_input}
use Rattle.fp_topologies.specs.ConnectionBroken.{IsOther}
use Rattle.fp_topologies.proofs.connections_broken.to_fault.Goals as goal

pub returns : goal.returns
returns c =
    let end = c.args.end in
    least_along (sym c.lesser.ensures)
    (least_either c.refusal_if-missing.result c.refusal_if-other.result
    (least_told (end.port ≡ None) c.is_none.result (broken_at PortMissing end.at) c.refusal_if-missing.result (none_told end.port c.is_none.result c.is_none.ensures) c.refusal_if-missing.ensures)
    (least_told (IsOther is_input end.port) c.is_no_input.result (broken_at BadDirection end.at) c.refusal_if-other.result c.is_no_input.ensures c.refusal_if-other.ensures))
