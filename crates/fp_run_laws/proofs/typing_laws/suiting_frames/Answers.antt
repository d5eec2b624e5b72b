use Rattle.fp_run_laws.proofs.Told.{told_suits}
use Rattle.fp_run_laws.proofs.typing_laws.suiting_frames.Goals as goal

pub returns : goal.returns
returns c = λ t program sound good a es x told. told_suits t program sound good a es x told
