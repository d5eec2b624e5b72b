use Rattle.std.proofs.Common.{◌≡◌, true, take}
use Rattle.std.specs.List.{list_all}
use Rattle.fp_tables.specs.Components.{reads_its_format}
use Rattle.fp_sound_model.proofs.parts.events_read_their_formats.Given as goal

abbrev pub invariant-loop-event : goal.invariant-loop-event
invariant-loop-event l = list_all reads_its_format (take l.event-index l.events) ≡ true
