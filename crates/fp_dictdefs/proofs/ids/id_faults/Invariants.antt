use Rattle.std.specs.BTreeSet.{contains}
use Rattle.fp_dictdefs.specs.Tested.{long_cmp}
use Rattle.fp_dictdefs.proofs.Counting.{IdsFirst}
use Rattle.fp_dictdefs.proofs.ids.id_faults.Given as goal

abbrev pub invariant-loop-one : goal.invariant-loop-one
invariant-loop-one l = IdsFirst l.list l.one-index l.first l.implied (contains long_cmp l.seen)
