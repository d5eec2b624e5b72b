use Rattle.fp_numbering.proofs.Carried.{all_members, all_directions, all_definitions}
use Rattle.fp_numbering.proofs.sound_wires_laws.wires_are_as_links.Goals as goal

pub returns-clause-members : goal.returns-clause-members
returns-clause-members c m o are sound = all_members m o are sound

pub returns-clause-directions : goal.returns-clause-directions
returns-clause-directions c m o are sound = all_directions m o are sound

pub returns-clause-definitions : goal.returns-clause-definitions
returns-clause-definitions c m o are sound = all_definitions m o are sound
