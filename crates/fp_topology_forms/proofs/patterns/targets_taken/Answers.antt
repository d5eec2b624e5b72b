use Rattle.std.proofs.Common.{List, subst}
use Rattle.fp_tree.specs.declared.topology.Target.{Target}
use Rattle.fp_meaning.specs.Layout.{targets_items}
use Rattle.fp_type_forms.specs.Resolved.{Takes}
use Rattle.fp_component_forms.proofs.Readers.{taken_with, taken_without}
use Rattle.fp_topology_forms.specs.Written.{TargetsAre}
use Rattle.fp_topology_forms.proofs.patterns.targets_taken.Goals as goal

pub returns-in_ok-row-in-Some : goal.returns-in_ok-row-in-Some
returns-in_ok-row-in-Some c source scope marks ready =
    taken_with source marks c.args.resolutions.now (targets_items scope) (TargetsAre source scope) c.args.targets.now c.in-Some.targets c.in_ok-row-in-Some.row c.args.next.now c.listed_taken.new.next c.in-Some.is
    (subst (λ (ts : List Target). Takes source marks c.args.resolutions.now (targets_items scope ts) c.args.next.now c.listed_taken.new.next (TargetsAre source scope ts c.in_ok-row-in-Some.row)) c.as_slice.ensures
    (c.in_ok-row-in-Some.ensures source scope marks ready))

pub returns-in-None : goal.returns-in-None
returns-in-None c source scope marks ready =
    taken_without source marks c.args.resolutions.now (targets_items scope) (TargetsAre source scope) c.args.targets.now c.args.next.now c.in-None.is
