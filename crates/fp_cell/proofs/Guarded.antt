-- The walk from a guarded target, by the guard's answer.
use Rattle.std.proofs.Common.{◌≡◌, ℕ, Bool, true, false, List, [], Some, refl}
use Rattle.fp_tables.specs.declared.machine.Machine.{Machine}
use Rattle.fp_events.specs.Machine.{stays, answer, ask}
use Rattle.fp_machine_flat.specs.declared.node.FlatNode.{FlatNode}
use Rattle.fp_machine_flat.specs.Walking.{walk}
use Rattle.fp_machine_flat.specs.Moving.{target_walk}

module _ (m : Machine) (nodes : List FlatNode) (answers : ℕ → List Bool) (leaf guard node : ℕ) (asked more : List ℕ) (met : Bool)
    (told : met ≡ answer m answers asked guard) (counted : more ≡ ask m answers asked guard) where
  pub when_met : met ≡ true → target_walk m nodes answers leaf asked (Some (Some guard, node)) ≡ walk m answers nodes node more
  when_met e = let yes_it : answer m answers asked guard ≡ true = cc in rw (yes_it, counted) refl

  pub when_unmet : met ≡ false → target_walk m nodes answers leaf asked (Some (Some guard, node)) ≡ Some (stays [] leaf more)
  when_unmet e = let no_it : answer m answers asked guard ≡ false = cc in rw (no_it, counted) refl
