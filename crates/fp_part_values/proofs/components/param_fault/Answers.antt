use Rattle.std.proofs.Common.{◌++◌, ◌∷◌, []}
use Rattle.fp_meaning.specs.Layout.{type_items, value_items}
use Rattle.fp_part_values.specs.Names.{written}
use Rattle.fp_part_values.proofs.Joining.{of_name, then_number, then_passed}
use Rattle.fp_part_values.proofs.components.param_fault.Goals as goal

pub returns : goal.returns
returns c source scope =
    let p = c.args.param.now in
    then_number source c.args.marks.now c.args.resolutions.now scope (type_items 0 scope p.of ++ value_items scope p.default ++ value_items scope p.id ++ value_items scope p.set) (value_items scope p.save) c.args.next.now c.optional_number-set.new.next c.optional_number-save.new.next (p.of ∷ []) (written p.id ++ written p.set) p.save c.lesser-second.result c.optional_number-save.result c.lesser.result c.lesser.ensures
    (then_number source c.args.marks.now c.args.resolutions.now scope (type_items 0 scope p.of ++ value_items scope p.default ++ value_items scope p.id) (value_items scope p.set) c.args.next.now c.optional_number-id.new.next c.optional_number-set.new.next (p.of ∷ []) (written p.id) p.set c.lesser-first.result c.optional_number-set.result c.lesser-second.result c.lesser-second.ensures
    (then_number source c.args.marks.now c.args.resolutions.now scope (type_items 0 scope p.of ++ value_items scope p.default) (value_items scope p.id) c.args.next.now c.pass_value.new.next c.optional_number-id.new.next (p.of ∷ []) [] p.id c.name_fault-name.result c.optional_number-id.result c.lesser-first.result c.lesser-first.ensures
    (then_passed source c.args.marks.now c.args.resolutions.now scope (type_items 0 scope p.of) (value_items scope p.default) c.args.next.now c.name_fault-name.new.next c.pass_value.new.next (p.of ∷ []) [] c.name_fault-name.result
    (of_name source c.args.marks.now c.args.resolutions.now scope (type_items 0 scope p.of) c.args.next.now c.name_fault-name.new.next p.of c.name_fault-name.result (c.name_fault-name.ensures source scope 0)) (c.pass_value.ensures source c.args.marks.now scope)) (c.optional_number-id.ensures source scope)) (c.optional_number-set.ensures source scope)) (c.optional_number-save.ensures source scope)
