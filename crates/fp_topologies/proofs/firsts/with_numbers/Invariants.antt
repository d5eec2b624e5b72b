use Rattle.std.proofs.Common.{◌++◌, List, ℕ, take}
use Rattle.fp_topologies.specs.ImportFirsts.{AreFirsts}
use Rattle.fp_topologies.proofs.firsts.with_numbers.Given as goal

abbrev pub invariant-loop-number : goal.invariant-loop-number
invariant-loop-number l = (all : List ℕ) → AreFirsts all l.fn.firsts → AreFirsts (all ++ take l.number-index l.numbers) l.after
