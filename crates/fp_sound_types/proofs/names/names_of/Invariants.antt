use Rattle.std.proofs.Common.{◌≡◌, map, take}
use Rattle.fp_sound_types.proofs.names.names_of.Given as goal

abbrev pub invariant-loop-item : goal.invariant-loop-item
invariant-loop-item g l = map (λ name. name.now) l.names.items ≡ map g.T.Called.name_of (take l.item-index l.items)
