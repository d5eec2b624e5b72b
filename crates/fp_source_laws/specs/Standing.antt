-- The places of a source.
use Rattle.std.specs.Prelude.{Contains}
use Rattle.fp_base.specs.declared.place.Place.{Place}
use Rattle.fp_tree.specs.declared.source.Source.{Source}
use Rattle.fp_meaning.specs.Layout.{items}
use Rattle.fp_meaning.specs.declared.item.Item.{Item}
use Rattle.fp_places.specs.Places.{places_of}

-- it is one of those of an item
abbrev pub IsPlaceOf : Source → Place → Type 0
IsPlaceOf source place = (i : Item) × Contains (items source) i × Contains (places_of i) place
