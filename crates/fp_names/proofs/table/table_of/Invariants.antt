use Rattle.std.proofs.Common.{take}
use Rattle.fp_meaning.specs.Broken.{IsTwice}
use Rattle.fp_base.specs.Least.{InFirst, IsLeast}
use Rattle.fp_names.specs.Tree.{IsTable}
use Rattle.fp_names.proofs.table.table_of.Given as goal

abbrev pub invariant-loop-number : goal.invariant-loop-number
invariant-loop-number l = record {
  table : IsTable (take l.number l.definitions) l.nodes.items;
  least : IsLeast (InFirst l.number (IsTwice l.definitions) l.definitions) l.twice;
}
