use Rattle.fp_numbering.specs.Found.{AreFoundFirst}
use Rattle.fp_numbering.proofs.wiring.found_in.Given as goal

abbrev pub invariant-topologies : goal.invariant-topologies
invariant-topologies l = AreFoundFirst l.model l.topology l.found
