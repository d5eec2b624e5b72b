use Rattle.std.proofs.Common.{refl}
use Rattle.fp_sound_model.proofs.components.component_names_differ.Goals as goal

pub returns : goal.returns
returns c =
    rw (c.in_ok-ports.ensures, c.in_ok-commands.ensures, c.in_ok-events.ensures, c.in_ok-channels.ensures, c.in_ok-params.ensures, c.in_ok-machines.ensures) refl
