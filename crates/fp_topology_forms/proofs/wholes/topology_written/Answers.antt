use Rattle.std.proofs.Common.{List, flat_map, subst}
use Rattle.fp_tree.specs.declared.topology.TMember.{TMember}
use Rattle.fp_meaning.specs.Layout.{topology_member_items}
use Rattle.fp_type_forms.specs.Resolved.{Takes}
use Rattle.fp_type_forms.proofs.Taking.{taken_all}
use Rattle.fp_topology_forms.specs.Taken.{MembersAre}
use Rattle.fp_topology_forms.proofs.wholes.topology_written.Goals as goal

pub returns : goal.returns
returns c source ready h =
    let scope = c.args.scope.now in
    let d = c.args.topology.now in
    let all = taken_all source c.args.marks.now c.args.resolutions.now (flat_map (topology_member_items scope) d.members) c.args.start c.members_taken.new.next
    (subst (λ (ms : List TMember). Takes source c.args.marks.now c.args.resolutions.now (flat_map (topology_member_items scope) ms) c.args.start c.members_taken.new.next (MembersAre source scope ms c.in_ok-all.all)) c.as_slice-members.ensures
    (c.in_ok-all.ensures source scope ready)) h in
    record { name = c.in_ok-name.ensures; instances = all.instances; imports = all.imports; connections = all.connections; patterns = all.patterns }
