use Rattle.fp_sound_parts.proofs.Whole.{components_sound}
use Rattle.fp_sound_parts.proofs.component_laws.resolved_components_are_sound.Goals as goal

pub returns : goal.returns
returns c types machines ws definitions interfaces written cs ready ports parts wholes resolved =
    components_sound types machines ws definitions interfaces written cs (record { ready = ready; of_ports = ports; of_parts = parts; of_wholes = wholes }) resolved
