use Rattle.fp_sound_parts.proofs.Bodies.{body_is_sound}
use Rattle.fp_sound_parts.proofs.behavior_laws.unbroken_bodies_are_sound.Goals as goal

pub returns : goal.returns
returns c = λ types place es kinds name b. body_is_sound types place es kinds name b
