use Rattle.fp_numbering.proofs.Wholly.{all_sound}
use Rattle.fp_numbering.proofs.sound_wires_laws.with_numbers_sound.Goals as goal

pub returns : goal.returns
returns c m o are differ sound sizes = all_sound m o are differ sound sizes
