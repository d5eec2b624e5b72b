use Rattle.fp_type_forms.proofs.Ready.{AreResolvedFirst}
use Rattle.fp_type_forms.proofs.resolving.resolutions.Given as goal

abbrev pub invariant-loop-item : goal.invariant-loop-item
invariant-loop-item l = AreResolvedFirst l.meanings l.ranks l.limit l.items l.item-index l.resolved
