use Rattle.std.proofs.Common.{◌≡◌, map, take}
use Rattle.fp_sound_machines.specs.Walks.{family_name, family_name_of}
use Rattle.fp_sound_machines.proofs.machines.family_names.Given as goal

abbrev pub invariant-loop-vertex : goal.invariant-loop-vertex
invariant-loop-vertex l = map family_name_of l.keys.items ≡ map family_name (take l.vertex-index l.vertices)
