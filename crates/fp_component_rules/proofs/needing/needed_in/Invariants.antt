use Rattle.std.proofs.Common.{◌≡◌, take}
use Rattle.std.specs.List.{list_any}
use Rattle.fp_tables.specs.declared.component.Special.{Special}
use Rattle.fp_component_rules.specs.Firsts.{has_kind}
use Rattle.fp_component_rules.specs.Broken.{needs}
use Rattle.fp_component_rules.proofs.needing.needed_in.Given as goal

abbrev pub invariant-loop-member : goal.invariant-loop-member
invariant-loop-member l = (s : Special) → has_kind l.needed s ≡ list_any (needs s) (take l.member-index l.members)
