use Rattle.std.proofs.Common.{◌≡◌, map, take}
use Rattle.fp_sound_types.proofs.names.numbers_of.Given as goal

abbrev pub invariant-loop-item : goal.invariant-loop-item
invariant-loop-item g l = l.numbers.items ≡ map g.T.Numbered.number_of (take l.item-index l.items)
