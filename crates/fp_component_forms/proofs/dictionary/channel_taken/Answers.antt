use Rattle.std.proofs.Common.{◌++◌, refl}
use Rattle.fp_meaning.specs.Layout.{type_items, value_items, limits_items}
use Rattle.fp_meaning.specs.Names.{in_optional}
use Rattle.fp_type_forms.proofs.Taking.{taken_as, taken_then}
use Rattle.fp_component_forms.proofs.dictionary.channel_taken.Goals as goal

pub returns : goal.returns
returns c source scope =
    taken_as source c.args.marks.now c.args.resolutions.now (((type_items 0 scope c.args.channel.now.of ++ value_items scope c.args.channel.now.id) ++ in_optional (limits_items scope) c.args.channel.now.low) ++ in_optional (limits_items scope) c.args.channel.now.high) c.args.next.now _
    (λ t has. record { name = c.in_ok-name.ensures; at = refl; kind = t.0.0.0 has; id = t.0.0.1; update = refl; format = c.in_ok-format.ensures; limits = (c.in_ok-low.low, c.in_ok-high.high, t.0.1, t.1, c.in_ok-limits.ensures); note = c.in_ok-note.ensures })
    (taken_then source c.args.marks.now c.args.resolutions.now ((type_items 0 scope c.args.channel.now.of ++ value_items scope c.args.channel.now.id) ++ in_optional (limits_items scope) c.args.channel.now.low) (in_optional (limits_items scope) c.args.channel.now.high) c.args.next.now _ _ (taken_then source c.args.marks.now c.args.resolutions.now (type_items 0 scope c.args.channel.now.of ++ value_items scope c.args.channel.now.id) (in_optional (limits_items scope) c.args.channel.now.low) c.args.next.now _ _ (taken_then source c.args.marks.now c.args.resolutions.now (type_items 0 scope c.args.channel.now.of) (value_items scope c.args.channel.now.id) c.args.next.now _ _ (c.type_taken-kind.ensures source scope)
    (c.optional_taken-id.ensures source scope))
    (c.in_ok-low.ensures source scope))
    (c.in_ok-high.ensures source scope))
