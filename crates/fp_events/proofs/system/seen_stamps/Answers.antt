use Rattle.fp_events.proofs.Seen.{seen_agree}
use Rattle.fp_events.proofs.system.seen_stamps.Goals as goal

pub returns : goal.returns
returns g c = λ y held traces seen rises. seen_agree y held traces seen rises
