use Rattle.std.proofs.Common.{◌≡◌, ◌++◌, map}
use Rattle.std.specs.Vec.Iter.{into_iter_items}
use Rattle.fp_parse_components.specs.Noted.{with_its_note}
use Rattle.fp_parse_components.proofs.noting.noted_parts.Given as goal

abbrev pub invariant-loop-part : goal.invariant-loop-part
invariant-loop-part l = l.all ++ map with_its_note (into_iter_items l.part-iterator) ≡ map with_its_note l.fn.parts
