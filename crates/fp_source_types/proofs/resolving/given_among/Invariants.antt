use Rattle.std.proofs.Common.{◌≡◌, ◌++◌, flat_map}
use Rattle.std.specs.Prelude.{option_to_list}
use Rattle.std.specs.Vec.Iter.{into_iter_items}
use Rattle.fp_source_types.proofs.resolving.given_among.Given as goal

-- the types so far and those of what is left are all
abbrev pub invariant-loop-mark : goal.invariant-loop-mark
invariant-loop-mark l = l.given ++ flat_map option_to_list (into_iter_items l.mark-iterator) ≡ flat_map option_to_list l.fn.marks
