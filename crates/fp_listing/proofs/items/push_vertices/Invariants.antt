use Rattle.std.proofs.Common.{◌≡◌, ◌++◌, take}
use Rattle.std.specs.Prelude.{flat_map}
use Rattle.std.specs.List.{enumerate_from}
use Rattle.fp_listing.specs.Listing.{vertex_line}
use Rattle.fp_listing.proofs.items.push_vertices.Given as goal

abbrev pub invariant-loop-at : goal.invariant-loop-at
invariant-loop-at l = l.out ≡ l.initial.out ++ flat_map (vertex_line l.machine) (take l.at (enumerate_from 0 l.vertices))
