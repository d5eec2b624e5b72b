use Rattle.fp_meaning.specs.Layout.{pattern_items}
use Rattle.fp_type_forms.proofs.Taking.{taken_as}
use Rattle.fp_topology_forms.proofs.Rows.{pattern_behind}
use Rattle.fp_topology_forms.proofs.members.with_pattern.Goals as goal

pub returns : goal.returns
returns c source scope marks ready =
    let p = c.args.pattern.now in
    taken_as source marks c.args.resolutions.now (pattern_items scope p) c.args.next.now c.pattern_taken.new.next
    (λ h. pattern_behind source scope c.args.before p c.in_ok-one.one c.in_ok-patterns.patterns c.in_ok-patterns.ensures h)
    (c.in_ok-one.ensures source scope marks ready)
