use Rattle.std.proofs.Common.{◌≡◌, drop}
use Rattle.fp_names.specs.Tree.{longest, root, step}
use Rattle.fp_names.proofs.tree.longest_from.Given as goal

abbrev pub invariant-loop-inner : goal.invariant-loop-inner
invariant-loop-inner l =
    longest l.nodes l.name l.at l.best (drop l.inner-index l.scope) ≡ longest l.nodes l.name (root l.fn.group) (step l.nodes (root l.fn.group) l.name) l.scope
