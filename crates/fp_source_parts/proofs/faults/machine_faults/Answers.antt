use Rattle.fp_base.proofs.Options.{if_ok_then}
use Rattle.fp_source_parts.proofs.faults.machine_faults.Goals as goal

pub returns : goal.returns
returns c =
    if_ok_then c.least_among.result _ _ (λ first l source laid resolved given. c.machines_are_least.ensures source c.args.types.now first given (l source laid resolved)) c.least_among.ensures
