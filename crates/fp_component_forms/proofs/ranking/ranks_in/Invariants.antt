use Rattle.fp_component_forms.proofs.Ranked.{AreRankedFirst}
use Rattle.fp_component_forms.proofs.ranking.ranks_in.Given as goal

abbrev pub invariant-loop-item : goal.invariant-loop-item
invariant-loop-item l =
    AreRankedFirst l.group l.items l.item-index l.ranking
