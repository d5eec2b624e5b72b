use Rattle.fp_numbering.proofs.Carried.{all_lie}
use Rattle.fp_numbering.proofs.sound_wires_laws.wires_lie.Goals as goal

pub returns : goal.returns
returns c m o are lie = all_lie m o are lie
