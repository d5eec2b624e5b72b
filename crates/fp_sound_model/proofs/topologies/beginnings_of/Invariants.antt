use Rattle.std.proofs.Common.{◌≡◌, map, take}
use Rattle.fp_tables.specs.Found.{key_of}
use Rattle.fp_tables.specs.declared.topology.Wire.{Wire}
use Rattle.fp_sound_model.proofs.topologies.beginnings_of.Given as goal

abbrev pub invariant-loop-wire : goal.invariant-loop-wire
invariant-loop-wire l = l.keys.items ≡ map (λ (wire : Wire). key_of wire.from) (take l.wire-index l.wires)
