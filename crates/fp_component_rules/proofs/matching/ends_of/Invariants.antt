use Rattle.std.proofs.Common.{◌≡◌, ℕ, List, map, take}
use Rattle.std.specs.Prelude.{option_map}
use Rattle.std.specs.List.{find}
use Rattle.fp_component_rules.specs.Firsts.{is_named}
use Rattle.fp_component_rules.specs.Tested.{end_of, find_end}
use Rattle.fp_component_rules.proofs.matching.ends_of.Given as goal

abbrev pub invariant-loop-port : goal.invariant-loop-port
invariant-loop-port l = (q : List ℕ) → find_end l.ends q ≡ option_map end_of (find (is_named q) (map (λ port. port.now) (take l.port-index l.ports)))
