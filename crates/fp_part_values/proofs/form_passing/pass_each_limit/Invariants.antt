use Rattle.std.proofs.Common.{List, Option}
use Rattle.fp_tree.specs.declared.source.Source.{Source}
use Rattle.fp_meaning.specs.Names.{Path}
use Rattle.fp_meaning.specs.Layout.{limit_items}
use Rattle.fp_part_values.proofs.Looping.{PassesFirst}
use Rattle.fp_base.specs.declared.value.Value.{Value}
use Rattle.fp_part_values.proofs.form_passing.pass_each_limit.Given as goal

abbrev pub invariant-loop-limit : goal.invariant-loop-limit
invariant-loop-limit l = (source : Source) (marks : List (Option Value)) (scope : Path) → PassesFirst (limit_items scope) source marks l.resolutions l.limits l._limit-index l.initial.next l.next
