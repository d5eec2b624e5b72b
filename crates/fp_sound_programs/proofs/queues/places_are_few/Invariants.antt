use Rattle.std.proofs.Common.{◌≡◌, ◌≤◌, take}
use Rattle.std.specs.Prelude.{sum_by}
use Rattle.fp_tables.specs.SoundPrograms.{queue_places}
use Rattle.fp_sound_programs.proofs.queues.places_are_few.Given as goal

abbrev pub invariant-loop-instance : goal.invariant-loop-instance
invariant-loop-instance l = record {
  so_far : l.total ≡ sum_by (queue_places l.tables) (take l.instance-index l.instances);
  few : l.total ≤ 1000000;
}
