use Rattle.std.proofs.Common.{◌≡◌, ◌+◌, ◌++◌, map, take}
use Rattle.fp_dictionary.specs.Dictionary.{Numbered}
use Rattle.fp_dictionary.specs.Placed.{numbered}
use Rattle.fp_dictionary.proofs.lists.push_places.Given as goal

abbrev pub invariant-loop-member : goal.invariant-loop-member
invariant-loop-member g l =
    let data_of = g.T.Listed.data_of l.model.types in
    map (numbered data_of) l.places.items ≡ map (numbered data_of) l.initial.places.items ++ map {B = Numbered} (λ x. (l.instance.base + g.T.Listed.number_of x, data_of l.instance x)) (take l.member-index l.members)
