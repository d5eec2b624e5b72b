use Rattle.std.proofs.Common.{◌≡◌, ◌++◌, take}
use Rattle.std.specs.Prelude.{flat_map}
use Rattle.fp_tables.specs.declared.component.Event.{Event}
use Rattle.fp_dictionary.specs.Used.{kinds_of_formals}
use Rattle.fp_dictionary.proofs.listing.push_events.Given as goal

abbrev pub invariant-loop-event : goal.invariant-loop-event
invariant-loop-event l = l.kinds ≡ l.initial.kinds ++ flat_map (λ (e : Event). kinds_of_formals e.formals) (take l.event-index l.events)
