use Rattle.fp_tree.specs.declared.source.Source.{Source}
use Rattle.fp_meaning.specs.Layout.{formal_items}
use Rattle.fp_meaning.specs.Names.{Path}
use Rattle.fp_part_values.proofs.Passed.{PassesFirst}
use Rattle.fp_part_values.proofs.passing.pass_each.Given as goal

abbrev pub invariant-loop-formal : goal.invariant-loop-formal
invariant-loop-formal l = (source : Source) (scope : Path) → PassesFirst source l.marks l.resolutions (λ k. formal_items scope) l.formals l.formal-index l.initial.next l.next
