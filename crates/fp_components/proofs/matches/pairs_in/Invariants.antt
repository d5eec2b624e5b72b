use Rattle.std.proofs.Common.{List, flat_map, take}
use Rattle.fp_written_parts.specs.declared.port.WrittenPort.{WrittenPort}
use Rattle.fp_components.specs.Listing.{AreWholeMatches, FindsPorts}
use Rattle.fp_components.specs.Resolved.{AreEach, IsMatch, match_in}
use Rattle.fp_components.proofs.matches.pairs_in.Given as goal

abbrev pub invariant-loop-member : goal.invariant-loop-member
invariant-loop-member l = (all : List WrittenPort) → FindsPorts all l.positions → AreWholeMatches all l.members
    → AreEach (λ k. IsMatch all) (flat_map match_in (take l.member-index l.members)) l.pairs
