use Rattle.std.proofs.Common.{◌≡◌, drop}
use Rattle.fp_names.specs.Tree.{walk}
use Rattle.fp_names.proofs.tree.walk_from.Given as goal

abbrev pub invariant-loop-name : goal.invariant-loop-name
invariant-loop-name l = walk l.nodes l.at (drop l.name-index l.names) ≡ walk l.nodes l.from l.names
