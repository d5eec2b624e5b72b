use Rattle.std.proofs.Common.{refl}
use Rattle.fp_sound_model.proofs.components.component_ids_differ.Goals as goal

pub returns : goal.returns
returns c = rw (c.in_ok-commands.ensures, c.in_ok-events.ensures, c.in_ok-channels.ensures, c.in_ok-params.ensures) refl
