use Rattle.std.proofs.Common.{◌≡◌, true, take}
use Rattle.std.specs.List.{list_all}
use Rattle.fp_tables.specs.Lists.{all_pass}
use Rattle.fp_sound_model.specs.Parts.{tests_of_component}
use Rattle.fp_sound_model.proofs.parts.components_are_sound.Given as goal

abbrev pub invariant-loop-component : goal.invariant-loop-component
invariant-loop-component l = list_all (all_pass (tests_of_component l.model)) (take l.component-index l.items) ≡ true
