use Rattle.std.proofs.Common.{◌≡◌, ◌++◌, take}
use Rattle.fp_topologies.specs.Links.{targets_of}
use Rattle.fp_topologies.proofs.links.add_targets.Given as goal

abbrev pub invariant-loop-link : goal.invariant-loop-link
invariant-loop-link l = l.rows.items ≡ l.fn.before.items ++ targets_of (take l.link-index l.links)
