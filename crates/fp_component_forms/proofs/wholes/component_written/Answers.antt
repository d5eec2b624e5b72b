use Rattle.std.proofs.Common.{List, flat_map, refl, subst}
use Rattle.fp_tree.specs.declared.component.Part.{Part}
use Rattle.fp_meaning.specs.Layout.{own_items, component_scope}
use Rattle.fp_type_forms.specs.Resolved.{Takes}
use Rattle.fp_type_forms.proofs.Taking.{taken_all}
use Rattle.fp_component_forms.specs.Taken.{MembersWhere}
use Rattle.fp_component_forms.proofs.wholes.component_written.Goals as goal

pub returns : goal.returns
returns c source ready h has =
    let d = c.args.component.now in
    let scope = component_scope c.args.scope.now d in
    record {
      name = c.in_ok-name.ensures;
      at = refl;
      queueing = c.queueing_with-queueing.ensures;
      members =
          taken_all source c.args.marks.now c.args.resolutions.now (flat_map (own_items scope) d.parts) c.args.start c.members_taken.new.next
          (subst (λ (ps : List Part). Takes source c.args.marks.now c.args.resolutions.now (flat_map (own_items scope) ps) c.args.start c.members_taken.new.next (MembersWhere source scope ps c.in_ok-members.members)) c.as_slice-parts.ensures
          (c.in_ok-members.ensures source scope ready)) h has;
    }
