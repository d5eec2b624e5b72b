use Rattle.std.proofs.Common.{ap}
use Rattle.std.specs.Prelude.{codes, slice_get}
use Rattle.fp_base.specs.Rendered.{quoted}
use Rattle.fp_logtext.specs.Names.{or_nothing}
use Rattle.fp_listing.specs.Members.{event_head, severities, throttle_text}
use Rattle.fp_logtext.proofs.Pushed.{first, next, last_same}
use Rattle.fp_listing.proofs.members.push_event_text.Goals as goal

pub returns : goal.returns
returns c =
    let event = c.args.event.now in
    let head = first c.args.out.now (event_head c.args.model.now event) c.in_ok-push_event_head.ensures in
    let word = next head (codes " severity ") c.in_ok-push_text.ensures in
    let severity = next word (or_nothing (slice_get severities event.severity)) c.in_ok-push_severity.ensures in
    let throttle = next severity (throttle_text event.throttle) c.in_ok-push_throttle.ensures in
    let words = next throttle (codes " format ") c.in_ok-push_text-2.ensures in
    last_same words (quoted event.format) (ap quoted c.as_bytes.ensures.value) c.push_quoted.new.out c.push_quoted.result c.push_quoted.ensures
