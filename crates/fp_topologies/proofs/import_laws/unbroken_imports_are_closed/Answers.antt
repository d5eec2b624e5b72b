use Rattle.fp_topologies.proofs.OneList.{closed_where_unbroken}
use Rattle.fp_topologies.proofs.import_laws.unbroken_imports_are_closed.Goals as goal

pub returns : goal.returns
returns c = closed_where_unbroken
