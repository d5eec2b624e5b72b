use Rattle.std.proofs.Common.{◌≡◌, ◌++◌, take}
use Rattle.std.specs.Prelude.{flat_map}
use Rattle.fp_listing.specs.Members.{event_line}
use Rattle.fp_listing.proofs.members.push_events.Given as goal

abbrev pub invariant-loop-event : goal.invariant-loop-event
invariant-loop-event l = l.out ≡ l.initial.out ++ flat_map (event_line l.model) (take l.event-index l.events)
