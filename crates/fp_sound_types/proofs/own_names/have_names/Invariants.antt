use Rattle.std.proofs.Common.{◌≡◌, true, take}
use Rattle.std.specs.List.{list_all}
use Rattle.fp_base.specs.Names.{is_name}
use Rattle.fp_sound_types.proofs.own_names.have_names.Given as goal

abbrev pub invariant-loop-item : goal.invariant-loop-item
invariant-loop-item g l = list_all (λ item. is_name (g.T.Called.name_of item)) (take l.item-index l.item-items) ≡ true
