use Rattle.fp_numbering.proofs.Below.{all_below}
use Rattle.fp_numbering.proofs.sound_wires_laws.numbered_below_sizes.Goals as goal

pub returns : goal.returns
returns c m o are lie sizes = all_below m o are lie sizes
