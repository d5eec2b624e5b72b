use Rattle.std.proofs.Common.{◌++◌, refl}
use Rattle.fp_meaning.specs.declared.group.Group.TheVariants as group
use Rattle.fp_meaning.specs.Layout.{use_items, value_items}
use Rattle.fp_type_forms.proofs.Taking.{taken_as, taken_then}
use Rattle.fp_topology_forms.specs.Written.{instance_part}
use Rattle.fp_topology_forms.proofs.uses.port_use_taken.Goals as goal

pub returns : goal.returns
returns c source scope ready =
    let u = c.args.port.now in
    let first = use_items group.Instance scope (instance_part u) in
    let second = value_items scope u.number in
    taken_as source c.args.marks.now c.args.resolutions.now (first ++ second) c.args.next.now _
    (λ t. record { used = t.0; port = c.in_ok-name.ensures; number = t.1 })
    (taken_then source c.args.marks.now c.args.resolutions.now first second c.args.next.now _ _
    (c.used_taken-used.ensures source c.args.marks.now scope (instance_part u) ready refl)
    (c.optional_taken-number.ensures source scope))
