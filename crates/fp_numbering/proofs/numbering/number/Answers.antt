use Rattle.fp_numbering.proofs.Suiting.{are_sound}
use Rattle.fp_numbering.proofs.numbering.number.Goals as goal

pub number_topology-requires-clause-sound : goal.number_topology-requires-clause-sound
number_topology-requires-clause-sound c = are_sound c.args.model.now c.args.topology c.requires.positions c.requires.sizes
