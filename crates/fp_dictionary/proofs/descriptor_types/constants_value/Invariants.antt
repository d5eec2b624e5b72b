use Rattle.std.proofs.Common.{◌≡◌, map, take}
use Rattle.serde_json.specs.View.{view}
use Rattle.fp_dictionary.specs.Types.{enumerated_data}
use Rattle.fp_dictionary.proofs.descriptor_types.constants_value.Given as goal

abbrev pub invariant-loop-constant : goal.invariant-loop-constant
invariant-loop-constant l = map view l.list.items ≡ map enumerated_data (take l.constant-index l.constants)
