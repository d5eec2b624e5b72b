use Rattle.fp_numbering.proofs.Apart.{all_differ}
use Rattle.fp_numbering.proofs.sound_wires_laws.beginnings_differ.Goals as goal

pub returns : goal.returns
returns c m o are = all_differ m o are
