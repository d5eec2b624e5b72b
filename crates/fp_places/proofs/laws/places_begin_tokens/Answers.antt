use Rattle.fp_places.proofs.Members.{placing}
use Rattle.fp_places.proofs.laws.places_begin_tokens.Goals as goal

pub returns : goal.returns
returns c tokens ms scope i place = placing tokens ms scope i place
