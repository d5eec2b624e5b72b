use Rattle.std.proofs.Common.{◌++◌, refl}
use Rattle.fp_meaning.specs.declared.group.Group.TheVariants as group
use Rattle.fp_meaning.specs.Layout.{targets_items, use_items}
use Rattle.fp_meaning.specs.Names.{in_optional}
use Rattle.fp_type_forms.proofs.Taking.{taken_as, taken_then}
use Rattle.fp_topology_forms.proofs.patterns.pattern_taken.Goals as goal

pub returns : goal.returns
returns c source scope marks ready =
    let p = c.args.pattern.now in
    let first = use_items group.Instance scope p.of in
    let second = in_optional (targets_items scope) p.targets in
    taken_as source marks c.args.resolutions.now (first ++ second) c.args.next.now _ (λ t. record { at = refl; kind = refl; of = t.0; targets = t.1 })
    (taken_then source marks c.args.resolutions.now first second c.args.next.now _ _ (c.used_taken-of.ensures source marks scope p.of ready refl) (c.in_ok-targets.ensures source scope marks ready))
