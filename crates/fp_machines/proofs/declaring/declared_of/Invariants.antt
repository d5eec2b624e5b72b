use Rattle.std.proofs.Common.{◌≡◌, ◌++◌, drop}
use Rattle.fp_machines.specs.Made.{action_in, declared_from, guard_in, signal_in}
use Rattle.fp_machines.proofs.declaring.declared_of.Given as goal

abbrev pub invariant-loop-at : goal.invariant-loop-at
invariant-loop-at l = record {
  signals : l.declared.signals ++ declared_from signal_in l.kinds l.at (drop l.at l.elements) ≡ declared_from signal_in l.kinds 0 l.elements;
  actions : l.declared.actions ++ declared_from action_in l.kinds l.at (drop l.at l.elements) ≡ declared_from action_in l.kinds 0 l.elements;
  guards : l.declared.guards ++ declared_from guard_in l.kinds l.at (drop l.at l.elements) ≡ declared_from guard_in l.kinds 0 l.elements;
}
