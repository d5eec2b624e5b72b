use Rattle.std.proofs.Common.{◌≡◌, flat_map, take}
use Rattle.fp_meaning.specs.Names.{uses_of}
use Rattle.fp_layout.proofs.mentions.mentions_in.Given as goal

abbrev pub invariant-loop-item : goal.invariant-loop-item
invariant-loop-item l = l.found ≡ flat_map uses_of (take l.item-index l.items)
