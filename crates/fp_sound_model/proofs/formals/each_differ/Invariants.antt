use Rattle.std.proofs.Common.{◌≡◌, true, take}
use Rattle.std.specs.List.{list_all}
use Rattle.fp_tables.specs.Names.{texts_differ}
use Rattle.fp_tables.specs.Components.{names_of}
use Rattle.fp_sound_model.proofs.formals.each_differ.Given as goal

abbrev pub invariant-loop-item : goal.invariant-loop-item
invariant-loop-item g l = list_all (λ item. texts_differ (names_of (g.T.TakesFormals.formals_of item))) (take l.item-index l.items) ≡ true
