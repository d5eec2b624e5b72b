use Rattle.fp_type_forms.proofs.Ranks.{AreRankedFirst}
use Rattle.fp_type_forms.proofs.ranking.ranks_of.Given as goal

abbrev pub invariant-loop-item : goal.invariant-loop-item
invariant-loop-item l = AreRankedFirst l.items l.item-index l.ranking
