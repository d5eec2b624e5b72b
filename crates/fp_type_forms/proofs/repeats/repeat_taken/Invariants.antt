use Rattle.fp_tree.specs.declared.source.Source.{Source}
use Rattle.fp_meaning.specs.Names.{Path}
use Rattle.fp_type_forms.proofs.Repeating.{RepeatFirst}
use Rattle.fp_type_forms.proofs.repeats.repeat_taken.Given as goal

abbrev pub invariant-loop-position : goal.invariant-loop-position
invariant-loop-position l = (source : Source) (scope : Path) → RepeatFirst source scope l.kind l.marks l.resolutions l.position l.initial.next l.next l.first l.seen
