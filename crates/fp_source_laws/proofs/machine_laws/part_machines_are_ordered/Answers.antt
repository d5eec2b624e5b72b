use Rattle.fp_source_laws.proofs.MembersOrdered.{parts_ordered}
use Rattle.fp_source_laws.proofs.machine_laws.part_machines_are_ordered.Goals as goal

pub returns : goal.returns
returns c = parts_ordered
