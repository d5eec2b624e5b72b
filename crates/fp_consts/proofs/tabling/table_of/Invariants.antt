use Rattle.std.proofs.Common.{◌≡◌, length}
use Rattle.fp_tree.specs.declared.source.Source.{Source}
use Rattle.fp_consts.specs.Tabled.{IsLaidOut, AreExactFirst}
use Rattle.fp_consts.proofs.tabling.table_of.Given as goal

abbrev pub invariant-loop-number : goal.invariant-loop-number
invariant-loop-number l = record {
  long : length l.table.items ≡ length l.chained.cyclic.items;
  exact : (source : Source) → IsLaidOut source l.items l.laid.firsts l.laid.spots l.meanings → AreExactFirst source l.order l.number-index l.table.items;
}
