use Rattle.std.proofs.Common.{refl}
use Rattle.fp_meaning.specs.declared.group.Group.TheVariants as group
use Rattle.fp_meaning.specs.Layout.{use_items}
use Rattle.fp_type_forms.proofs.Taking.{taken_as}
use Rattle.fp_topology_forms.proofs.Rows.{instance_behind}
use Rattle.fp_topology_forms.proofs.members.with_instance.Goals as goal

pub returns : goal.returns
returns c source scope marks ready =
    let u = c.args.instance.now in
    taken_as source marks c.args.resolutions.now (use_items group.Instance scope u.of) c.args.next.now c.used_taken-used.new.next
    (λ h. instance_behind source scope c.args.before u _ c.in_ok-instances.instances c.in_ok-instances.ensures (record { private = refl; used = h }))
    (c.used_taken-used.ensures source marks scope u.of ready refl)
