use Rattle.fp_tree.specs.declared.source.Source.{Source}
use Rattle.fp_tree.specs.declared.dictionary.Limit.{Limit}
use Rattle.fp_meaning.specs.Layout.{limit_items}
use Rattle.fp_meaning.specs.Names.{Path}
use Rattle.fp_component_forms.specs.Written.{LimitIs}
use Rattle.fp_component_forms.proofs.Lists.{EachIs, ReadsFirst}
use Rattle.fp_component_forms.proofs.dictionary.limits_taken.Given as goal

abbrev pub invariant-loop-limit : goal.invariant-loop-limit
invariant-loop-limit l =
    (source : Source) (scope : Path)
    → ReadsFirst (EachIs (LimitIs source scope l.high)) (λ (x : Limit). Unit {0}) (limit_items scope) source l.marks l.resolutions l.limits l.limit-index l.initial.next l.next l.row
