use Rattle.std.proofs.Common.{take}
use Rattle.fp_scenario_check.specs.Keys.{AreOwnedBy}
use Rattle.fp_scenario_check.proofs.owned.owned_of.Given as goal

abbrev pub invariant-loop-text : goal.invariant-loop-text
invariant-loop-text l = AreOwnedBy l.tables (take l.text-index l.texts) l.owned
