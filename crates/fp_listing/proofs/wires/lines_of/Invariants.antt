use Rattle.std.proofs.Common.{◌≡◌, take}
use Rattle.std.specs.Prelude.{flat_map}
use Rattle.fp_listing.specs.Listing.{wire_line}
use Rattle.fp_listing.proofs.wires.lines_of.Given as goal

abbrev pub invariant-loop-wire : goal.invariant-loop-wire
invariant-loop-wire l = l.out ≡ flat_map (wire_line l.model) (take l.wire-index l.wires)
