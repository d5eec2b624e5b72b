use Rattle.std.proofs.Common.{◌≡◌, ◌++◌, drop}
use Rattle.fp_meaning.specs.Owners.{owners_from}
use Rattle.fp_layout.proofs.owning.use_owners.Given as goal

abbrev pub invariant-loop-item : goal.invariant-loop-item
invariant-loop-item l = l.reached.owners ++ owners_from l.reached.number (drop l.item-index l.items) ≡ owners_from 0 l.items
