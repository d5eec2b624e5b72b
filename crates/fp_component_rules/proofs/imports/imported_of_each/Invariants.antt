use Rattle.std.proofs.Common.{◌≡◌, map, take}
use Rattle.fp_component_rules.specs.Links.{imported_in}
use Rattle.fp_component_rules.proofs.imports.imported_of_each.Given as goal

abbrev pub invariant-loop-interface : goal.invariant-loop-interface
invariant-loop-interface l = l.rows.items ≡ map (λ f. imported_in f.members) (take l.interface-index l.interfaces)
