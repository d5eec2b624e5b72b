use Rattle.std.proofs.Common.{◌≡◌, take}
use Rattle.std.specs.Prelude.{flat_map}
use Rattle.fp_listing.specs.Listing.{item_lines}
use Rattle.fp_listing.proofs.items.listing.Given as goal

abbrev pub invariant-loop-item : goal.invariant-loop-item
invariant-loop-item l = l.out ≡ flat_map (item_lines l.model) (take l.item-index l.item-items)
