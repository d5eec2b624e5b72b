use Rattle.std.proofs.Common.{◌≡◌, ◌++◌, take, flat_map}
use Rattle.fp_topologies.specs.Broken.{ends_of}
use Rattle.fp_topologies.proofs.uses.push_ends.Given as goal

abbrev pub invariant-loop-connection : goal.invariant-loop-connection
invariant-loop-connection l = l.used ≡ l.initial.used ++ flat_map ends_of (take l.connection-index l.connections)
