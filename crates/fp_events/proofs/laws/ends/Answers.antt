use Rattle.fp_events.proofs.Ended.{ended_dues, ends_ended, ended_ends, spent_limit}
use Rattle.fp_events.proofs.laws.ends.Goals as goal

pub returns : goal.returns
returns c = record {
  due = λ tables program es w h. ended_dues tables program es w h;
  end = λ tables program es h. ((λ ended. ended_ends tables program es h ended), (λ k. ends_ended tables program es k.0 k.1));
  spent = λ tables program es positive h. spent_limit tables program positive es h;
}
