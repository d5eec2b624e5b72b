use Rattle.std.specs.Prelude.{codes}
use Rattle.fp_listing.specs.Members.{event_text}
use Rattle.fp_logtext.proofs.Pushed.{first, next, last}
use Rattle.fp_listing.proofs.members.push_event.Goals as goal

pub returns : goal.returns
returns c =
    let margin = first c.args.out.now (codes "  ") c.in_ok-push_text.ensures in
    let text = next margin (event_text c.args.model.now c.args.event.now) c.in_ok-push_event_text.ensures in
    last text (codes "\n") c.push_text-2.new.log c.push_text-2.result c.push_text-2.ensures
