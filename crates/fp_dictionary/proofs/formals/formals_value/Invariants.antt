use Rattle.std.proofs.Common.{◌≡◌, map, take}
use Rattle.serde_json.specs.View.{view}
use Rattle.fp_dictionary.specs.Members.{formal_data}
use Rattle.fp_dictionary.proofs.formals.formals_value.Given as goal

abbrev pub invariant-loop-formal : goal.invariant-loop-formal
invariant-loop-formal l = map view l.list.items ≡ map (formal_data l.types) (take l.formal-index l.formals)
