use Rattle.std.proofs.Common.{List, sym, subst}
use Rattle.fp_meaning.specs.declared.item.Item.{Item}
use Rattle.fp_type_forms.specs.Resolved.{AreResolved}
use Rattle.fp_topology_forms.proofs.writing.deployment_written.Goals as goal

pub returns : goal.returns
returns c source laid h =
    let ready = c.in_ok-ranks.ensures source laid in
    let resolved = subst (λ (is : List Item). AreResolved source c.args.marks.now c.args.resolutions.now is 0) (sym laid) h in
    record { instances = c.in_ok-instances.ensures source ready laid resolved; topologies = c.in_ok-topologies.ensures source ready laid resolved }
