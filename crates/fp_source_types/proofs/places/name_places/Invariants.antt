use Rattle.std.proofs.Common.{◌≡◌, flat_map, take}
use Rattle.fp_source_types.specs.Places.{name_place, places_of}
use Rattle.fp_source_types.proofs.places.name_places.Given as goal

abbrev pub invariant-loop-item : goal.invariant-loop-item
invariant-loop-item l = l.found ≡ flat_map (places_of name_place) (take l.item-index l.items)
