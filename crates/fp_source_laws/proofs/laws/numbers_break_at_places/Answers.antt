use Rattle.fp_source_laws.proofs.Standing.{source_numbers_placed}
use Rattle.fp_source_laws.proofs.laws.numbers_break_at_places.Goals as goal

pub returns : goal.returns
returns c = source_numbers_placed c.unbroken_imports_are_closed.ensures
