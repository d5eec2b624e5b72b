use Rattle.fp_source_laws.proofs.MembersOrdered.{all_ordered}
use Rattle.fp_source_laws.proofs.machine_laws.machines_are_ordered.Goals as goal

pub returns : goal.returns
returns c = all_ordered
