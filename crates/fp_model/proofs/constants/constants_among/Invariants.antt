use Rattle.fp_model.proofs.Adding.{FoundFirst}
use Rattle.fp_model.proofs.constants.constants_among.Given as goal

abbrev pub invariant-loop-item : goal.invariant-loop-item
invariant-loop-item l = FoundFirst l.values l.items l.item-index l.found
