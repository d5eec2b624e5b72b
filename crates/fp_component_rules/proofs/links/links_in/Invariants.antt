use Rattle.std.proofs.Common.{◌≡◌, take}
use Rattle.fp_component_rules.specs.Links.{links_in}
use Rattle.fp_component_rules.proofs.links.links_in.Given as goal

abbrev pub invariant-loop-member : goal.invariant-loop-member
invariant-loop-member l = l.links ≡ links_in l.importer (take l.member-index l.members)
