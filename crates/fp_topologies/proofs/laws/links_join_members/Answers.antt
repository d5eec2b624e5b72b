use Rattle.fp_topologies.proofs.Meeting.{all_join}
use Rattle.fp_topologies.proofs.laws.links_join_members.Goals as goal

pub returns : goal.returns
returns c ds cs is ts rs have uses are = all_join ds cs is ts rs have uses are
