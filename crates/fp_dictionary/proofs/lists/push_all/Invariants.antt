use Rattle.std.proofs.Common.{◌≡◌, ◌++◌, drop, map, false}
use Rattle.fp_dictionary.specs.Dictionary.{said}
use Rattle.fp_dictionary.specs.Placed.{numbered}
use Rattle.fp_dictionary.specs.Printed.{items_printed}
use Rattle.fp_dictionary.proofs.lists.push_all.Given as goal

abbrev pub invariant-loop-place : goal.invariant-loop-place
invariant-loop-place g l =
    let row = numbered (g.T.Listed.data_of l.types) in
    l.out ++ items_printed l.later (said (map row (drop l.place-index l.places))) ≡ l.initial.out ++ items_printed false (said (map row l.places))
