use Rattle.fp_graph.proofs.Listed.{same_graph}
use Rattle.fp_graph.proofs.laws.rows_are_stretches.Goals as goal

pub returns : goal.returns
returns c = same_graph
