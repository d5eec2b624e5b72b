use Rattle.fp_gather.proofs.NamedItems.{named_items}
use Rattle.fp_gather.proofs.gathering.laws.names_are_names.Goals as goal

pub returns : goal.returns
returns c = named_items c.names_are_written.ensures c.part_names_are_written.ensures c.topology_names_are_written.ensures
