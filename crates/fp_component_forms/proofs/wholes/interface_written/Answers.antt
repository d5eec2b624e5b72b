use Rattle.std.proofs.Common.{List, flat_map, subst}
use Rattle.fp_tree.specs.declared.component.InterfacePart.{InterfacePart}
use Rattle.fp_meaning.specs.Layout.{interface_part_items}
use Rattle.fp_type_forms.specs.Resolved.{Takes}
use Rattle.fp_type_forms.proofs.Taking.{taken_all}
use Rattle.fp_component_forms.specs.Written.{InterfaceMembersAre}
use Rattle.fp_component_forms.proofs.wholes.interface_written.Goals as goal

pub returns : goal.returns
returns c source scope ready h =
    taken_all source c.args.marks.now c.args.resolutions.now (flat_map (interface_part_items scope) c.args.interface.now.parts) c.args.start c.interface_members.new.next
    (subst (λ (ps : List InterfacePart). Takes source c.args.marks.now c.args.resolutions.now (flat_map (interface_part_items scope) ps) c.args.start c.interface_members.new.next (InterfaceMembersAre source scope ps c.in_ok-members.members)) c.as_slice-parts.ensures
    (c.in_ok-members.ensures source scope ready)) h
