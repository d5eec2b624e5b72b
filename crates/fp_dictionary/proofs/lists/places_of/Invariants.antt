use Rattle.std.proofs.Common.{◌≡◌, map, take}
use Rattle.std.specs.Prelude.{flat_map}
use Rattle.fp_dictionary.specs.Dictionary.{members_at}
use Rattle.fp_dictionary.specs.Placed.{numbered}
use Rattle.fp_dictionary.proofs.lists.places_of.Given as goal

abbrev pub invariant-loop-at : goal.invariant-loop-at
invariant-loop-at g l =
    let data_of = g.T.Listed.data_of l.model.types in
    map (numbered data_of) l.places.items ≡ flat_map (members_at l.model g.T.Listed.members_of g.T.Listed.number_of data_of) (take l.at-index l.instances)
