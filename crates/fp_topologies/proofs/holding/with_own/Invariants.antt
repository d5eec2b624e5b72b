use Rattle.std.proofs.Common.{◌++◌, List, ℕ, take}
use Rattle.fp_topologies.specs.ImportFirsts.{AreFirsts}
use Rattle.fp_topologies.specs.Held.{instances_of}
use Rattle.fp_topologies.proofs.holding.with_own.Given as goal

abbrev pub invariant-loop-member : goal.invariant-loop-member
invariant-loop-member l = (all : List ℕ) → AreFirsts all l.fn.firsts → AreFirsts (all ++ instances_of (take l.member-index l.members)) l.after
