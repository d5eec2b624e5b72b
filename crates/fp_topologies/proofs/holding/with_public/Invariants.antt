use Rattle.std.proofs.Common.{◌++◌, List, ℕ, take}
use Rattle.fp_topologies.specs.ImportFirsts.{AreFirsts}
use Rattle.fp_topologies.specs.Held.{public_of}
use Rattle.fp_topologies.proofs.holding.with_public.Given as goal

abbrev pub invariant-loop-member : goal.invariant-loop-member
invariant-loop-member l = (all : List ℕ) → AreFirsts all l.fn.firsts → AreFirsts (all ++ public_of (take l.member-index l.members)) l.after
