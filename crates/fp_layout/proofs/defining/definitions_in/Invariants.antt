use Rattle.std.proofs.Common.{◌≡◌, flat_map, take}
use Rattle.fp_meaning.specs.Names.{definitions_of}
use Rattle.fp_layout.proofs.defining.definitions_in.Given as goal

abbrev pub invariant-loop-item : goal.invariant-loop-item
invariant-loop-item l = l.found ≡ flat_map definitions_of (take l.item-index l.items)
