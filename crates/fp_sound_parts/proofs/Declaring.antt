-- What declares a signal, an action or a guard.
use Rattle.std.proofs.Common.{◌≡◌, Some, is_some, refl, ap}
use Rattle.fp_base.proofs.Options.{same_some}
use Rattle.fp_tree.specs.declared.machine.ElementForm.{ElementForm}
use Rattle.fp_tree.specs.declared.machine.ElementForm.TheVariants as element
use Rattle.fp_tree.specs.declared.machine.TypedName.{TypedName}
use Rattle.fp_machines.specs.Made.{action_in, guard_in, is_action, is_guard, is_signal, signal_in}

-- ---- signals

pub signal_same : (f : ElementForm) → is_some (signal_in f) ≡ is_signal f
signal_same (element.State n) = refl
signal_same (element.Choice c) = refl
signal_same (element.Initial g) = refl
signal_same (element.Signal t) = refl
signal_same (element.Action t) = refl
signal_same (element.Guard t) = refl
signal_same (element.On o) = refl
signal_same (element.Entry d) = refl
signal_same (element.Exit d) = refl

pub signal_form : (f : ElementForm) (t : TypedName) → signal_in f ≡ Some t → f ≡ element.Signal t
signal_form (element.State n) t e = absurd cc
signal_form (element.Choice c) t e = absurd cc
signal_form (element.Initial g) t e = absurd cc
signal_form (element.Signal s) t e = ap element.Signal (same_some e)
signal_form (element.Action s) t e = absurd cc
signal_form (element.Guard s) t e = absurd cc
signal_form (element.On o) t e = absurd cc
signal_form (element.Entry d) t e = absurd cc
signal_form (element.Exit d) t e = absurd cc

-- ---- actions

pub action_same : (f : ElementForm) → is_some (action_in f) ≡ is_action f
action_same (element.State n) = refl
action_same (element.Choice c) = refl
action_same (element.Initial g) = refl
action_same (element.Signal t) = refl
action_same (element.Action t) = refl
action_same (element.Guard t) = refl
action_same (element.On o) = refl
action_same (element.Entry d) = refl
action_same (element.Exit d) = refl

pub action_form : (f : ElementForm) (t : TypedName) → action_in f ≡ Some t → f ≡ element.Action t
action_form (element.State n) t e = absurd cc
action_form (element.Choice c) t e = absurd cc
action_form (element.Initial g) t e = absurd cc
action_form (element.Signal s) t e = absurd cc
action_form (element.Action s) t e = ap element.Action (same_some e)
action_form (element.Guard s) t e = absurd cc
action_form (element.On o) t e = absurd cc
action_form (element.Entry d) t e = absurd cc
action_form (element.Exit d) t e = absurd cc

-- ---- guards

pub guard_same : (f : ElementForm) → is_some (guard_in f) ≡ is_guard f
guard_same (element.State n) = refl
guard_same (element.Choice c) = refl
guard_same (element.Initial g) = refl
guard_same (element.Signal t) = refl
guard_same (element.Action t) = refl
guard_same (element.Guard t) = refl
guard_same (element.On o) = refl
guard_same (element.Entry d) = refl
guard_same (element.Exit d) = refl

pub guard_form : (f : ElementForm) (t : TypedName) → guard_in f ≡ Some t → f ≡ element.Guard t
guard_form (element.State n) t e = absurd cc
guard_form (element.Choice c) t e = absurd cc
guard_form (element.Initial g) t e = absurd cc
guard_form (element.Signal s) t e = absurd cc
guard_form (element.Action s) t e = absurd cc
guard_form (element.Guard s) t e = ap element.Guard (same_some e)
guard_form (element.On o) t e = absurd cc
guard_form (element.Entry d) t e = absurd cc
guard_form (element.Exit d) t e = absurd cc
