use Rattle.fp_types.proofs.Example.{second, first}
use Rattle.fp_types.proofs.laws.second_converts.Goals as goal

pub returns-clause-second : goal.returns-clause-second
returns-clause-second c = second

pub returns-clause-first : goal.returns-clause-first
returns-clause-first c w d = first w d
