use Rattle.std.proofs.Common.{[], ◌∷◌, ◌++◌, take}
use Rattle.fp_names.specs.Tree.{Within}
use Rattle.fp_names.proofs.table.enter_all.Given as goal

abbrev pub invariant-loop-name : goal.invariant-loop-name
invariant-loop-name l = Within (l.before ++ l.definition ∷ []) l.before l.nodes.items l.definition.group (take l.name-index l.definition.name) l.at
