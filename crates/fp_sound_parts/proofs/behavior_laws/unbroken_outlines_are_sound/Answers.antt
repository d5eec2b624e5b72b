use Rattle.fp_sound_parts.proofs.Outlined.{outline_is_sound}
use Rattle.fp_sound_parts.proofs.behavior_laws.unbroken_outlines_are_sound.Goals as goal

pub returns : goal.returns
returns c types place es kinds name u = outline_is_sound types place es kinds u name
