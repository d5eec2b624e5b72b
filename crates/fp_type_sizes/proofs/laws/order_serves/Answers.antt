use Rattle.fp_type_sizes.proofs.Ordered.{ordered_by}
use Rattle.fp_type_sizes.proofs.laws.order_serves.Goals as goal

pub returns : goal.returns
returns c ws uses order are sorted = ordered_by ws uses are order sorted
