use Rattle.std.proofs.Common.{refl}
use Rattle.fp_sound_machines.proofs.machines.machine_names_differ.Goals as goal

pub returns : goal.returns
returns c = rw (c.in_ok-signals.ensures, c.in_ok-actions.ensures, c.in_ok-guards.ensures, c.as_slice.ensures, (c.as_slice-2).ensures, (c.as_slice-3).ensures) refl
