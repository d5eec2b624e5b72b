use Rattle.std.proofs.Common.{◌≡◌, flat_map, take}
use Rattle.fp_source_types.specs.Places.{default_place, places_of}
use Rattle.fp_source_types.proofs.places.default_places.Given as goal

abbrev pub invariant-loop-item : goal.invariant-loop-item
invariant-loop-item l = l.found ≡ flat_map (places_of default_place) (take l.item-index l.items)
