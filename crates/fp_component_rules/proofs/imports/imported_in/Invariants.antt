use Rattle.std.proofs.Common.{◌≡◌, take}
use Rattle.fp_component_rules.specs.Links.{imported_in}
use Rattle.fp_component_rules.proofs.imports.imported_in.Given as goal

abbrev pub invariant-loop-member : goal.invariant-loop-member
invariant-loop-member l = l.imported ≡ imported_in (take l.member-index l.members)
