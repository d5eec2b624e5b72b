use Rattle.fp_dictionary.proofs.Gathering.{steps_used}
use Rattle.fp_dictionary.proofs.describing.used_types.Goals as goal

pub returns : goal.returns
returns c =
    steps_used c.args.model.now c.args.topology.now c.as_slice-types.result.now c.as_slice.result.now c.in_ok-listed.listed c.in_ok-positions.positions (c.as_slice-2).result.now c.in_ok-found.found c.by_name.result
    c.as_slice-types.ensures c.as_slice.ensures c.in_ok-listed.ensures c.in_ok-positions.ensures (c.as_slice-2).ensures c.in_ok-found.ensures c.by_name.ensures
