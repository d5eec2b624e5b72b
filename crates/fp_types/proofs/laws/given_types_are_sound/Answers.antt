use Rattle.fp_types.proofs.SoundTypes.{sound_types}
use Rattle.fp_types.proofs.laws.given_types_are_sound.Goals as goal

pub returns : goal.returns
returns c ws types well are = sound_types ws types well are
