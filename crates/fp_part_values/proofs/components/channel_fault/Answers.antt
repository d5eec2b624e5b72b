use Rattle.std.proofs.Common.{◌++◌, ◌∷◌, []}
use Rattle.fp_meaning.specs.Names.{in_optional}
use Rattle.fp_meaning.specs.Layout.{limits_items, type_items, value_items}
use Rattle.fp_part_values.specs.Names.{written}
use Rattle.fp_part_values.proofs.Joining.{of_name, then_number, then_passed}
use Rattle.fp_part_values.proofs.components.channel_fault.Goals as goal

pub returns : goal.returns
returns c source scope =
    let t = c.args.channel.now in
    then_passed source c.args.marks.now c.args.resolutions.now scope (type_items 0 scope t.of ++ value_items scope t.id ++ in_optional (limits_items scope) t.low) (in_optional (limits_items scope) t.high) c.args.next.now c.pass_limits.new.next c.pass_limits-2.new.next (t.of ∷ []) (written t.id) c.lesser.result
    (then_passed source c.args.marks.now c.args.resolutions.now scope (type_items 0 scope t.of ++ value_items scope t.id) (in_optional (limits_items scope) t.low) c.args.next.now c.optional_number-id.new.next c.pass_limits.new.next (t.of ∷ []) (written t.id) c.lesser.result
    (then_number source c.args.marks.now c.args.resolutions.now scope (type_items 0 scope t.of) (value_items scope t.id) c.args.next.now c.name_fault-name.new.next c.optional_number-id.new.next (t.of ∷ []) [] t.id c.name_fault-name.result c.optional_number-id.result c.lesser.result c.lesser.ensures
    (of_name source c.args.marks.now c.args.resolutions.now scope (type_items 0 scope t.of) c.args.next.now c.name_fault-name.new.next t.of c.name_fault-name.result (c.name_fault-name.ensures source scope 0)) (c.optional_number-id.ensures source scope)) (c.pass_limits.ensures source c.args.marks.now scope)) (c.pass_limits-2.ensures source c.args.marks.now scope)
