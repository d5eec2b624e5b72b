use Rattle.std.proofs.Common.{flat_map, ap}
use Rattle.fp_meaning.specs.Names.{definitions_of, uses_of}
use Rattle.fp_meaning.specs.Origins.{expressions_of, origins_of}
use Rattle.fp_meaning.proofs.Worked.{its_items}
use Rattle.fp_meaning.proofs.laws.worked_source.Goals as goal

pub returns-clause-definitions : goal.returns-clause-definitions
returns-clause-definitions c = λ at x y z. ap (flat_map definitions_of) (its_items at x y z)

pub returns-clause-mentions : goal.returns-clause-mentions
returns-clause-mentions c = λ at x y z. ap (flat_map uses_of) (its_items at x y z)

pub returns-clause-expressions : goal.returns-clause-expressions
returns-clause-expressions c = λ at x y z. ap (flat_map expressions_of) (its_items at x y z)

pub returns-clause-origins : goal.returns-clause-origins
returns-clause-origins c = λ at x y z. ap (flat_map origins_of) (its_items at x y z)
