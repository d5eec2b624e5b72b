use Rattle.fp_run_laws.proofs.Held.{held_are_records}
use Rattle.fp_run_laws.proofs.laws.seen_records.Goals as goal

pub returns : goal.returns
returns c = λ tables program held traces seen. held_are_records tables program held traces seen
