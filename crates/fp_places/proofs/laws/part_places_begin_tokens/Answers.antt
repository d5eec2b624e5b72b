use Rattle.fp_places.proofs.Members.{placing_given, placing_own}
use Rattle.fp_places.proofs.laws.part_places_begin_tokens.Goals as goal

pub returns-clause-own : goal.returns-clause-own
returns-clause-own c = placing_own

pub returns-clause-given : goal.returns-clause-given
returns-clause-given c = placing_given
