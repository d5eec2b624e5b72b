use Rattle.std.proofs.Common.{map, take}
use Rattle.fp_components.specs.Listing.{FindsPorts}
use Rattle.fp_components.proofs.matches.positions_of.Given as goal

abbrev pub invariant-loop-at : goal.invariant-loop-at
invariant-loop-at l = FindsPorts (take l.at (map (λ port. port.now) l.ports)) l.positions
