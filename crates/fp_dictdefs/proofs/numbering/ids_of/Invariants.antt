use Rattle.fp_dictdefs.proofs.Numbered.{IdsListed}
use Rattle.fp_dictdefs.proofs.numbering.ids_of.Given as goal

abbrev pub invariant-loop-one : goal.invariant-loop-one
invariant-loop-one l = IdsListed l.list l.one-index l.implied l.ids
