use Rattle.std.proofs.Common.{◌≡◌, map, take}
use Rattle.fp_tables.specs.SoundPrograms.{priorities, count_different}
use Rattle.fp_tables.specs.declared.component.Component.{Component}
use Rattle.fp_sound_programs.proofs.queues.counts_of.Given as goal

abbrev pub invariant-loop-component : goal.invariant-loop-component
invariant-loop-component l = l.counts.items ≡ map (λ (component : Component). count_different (priorities component)) (take l.component-index l.components)
