use Rattle.std.proofs.Common.{◌≡◌, ◌++◌, drop}
use Rattle.std.specs.Vec.Iter.{into_iter_items}
use Rattle.fp_meaning.specs.Values.{parts_with}
use Rattle.fp_consts.proofs.gathered.parts.Given as goal

abbrev pub invariant-loop-member : goal.invariant-loop-member
invariant-loop-member l = l.row ++ parts_with (drop l.member-index l.members) (into_iter_items l.rest) ≡ parts_with l.members l.fn.values
