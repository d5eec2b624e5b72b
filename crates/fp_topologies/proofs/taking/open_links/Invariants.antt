use Rattle.std.proofs.Common.{◌≡◌, take}
use Rattle.std.specs.List.{filter}
use Rattle.fp_topologies.specs.Taken.{is_open}
use Rattle.fp_topologies.proofs.taking.open_links.Given as goal

abbrev pub invariant-loop-link : goal.invariant-loop-link
invariant-loop-link l = l.taken ≡ filter (is_open l.hidden) (take l.link-index l.links)
