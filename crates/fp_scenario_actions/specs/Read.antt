-- What the program's reading of a type stands for.
use Rattle.std.specs.Option.{option_copied}
use Rattle.fp_sound_types.specs.Shapes as shapes
use Rattle.fp_scenario_actions.specs.Wanted.{Wanted, with_default}
use Rattle.fp_scenario_actions.specs.declared.wanted.Wanted.{Wanted as Read}

abbrev pub meant : Read → Wanted
meant w = with_default (option_copied w.default) (shapes.meant w.shape)
