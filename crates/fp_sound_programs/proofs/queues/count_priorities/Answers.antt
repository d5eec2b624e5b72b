use Rattle.std.proofs.Common.{◌∙◌, ap}
use Rattle.fp_sound_programs.proofs.Counting.{set_counted}
use Rattle.fp_tables.specs.SoundPrograms.{count_different}
use Rattle.fp_sound_programs.proofs.queues.count_priorities.Goals as goal

pub returns : goal.returns
returns c = c.len.ensures.len ∙ set_counted c.in_ok-found.found.items c.in_ok-distinct.distinct c.in_ok-distinct.ensures ∙ ap count_different c.in_ok-found.ensures
