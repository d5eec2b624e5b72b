use Rattle.std.proofs.Common.{◌∷◌, []}
use Rattle.fp_meaning.specs.Sites.{port_naming}
use Rattle.fp_meaning.specs.Layout.{value_items}
use Rattle.fp_part_values.specs.Names.{written}
use Rattle.fp_part_values.proofs.Joining.{moved, of_optional_number, passed_then}
use Rattle.fp_meaning.specs.declared.item.Item.TheVariants as item
use Rattle.fp_part_values.proofs.topologies.port_use_fault.Goals as goal

pub returns : goal.returns
returns c source scope =
    let u = c.args.port.now in
    passed_then source c.args.marks.now c.args.resolutions.now scope (item.Used 0 (port_naming scope u) ∷ []) (value_items scope u.number) c.args.next.now c.pass_one.new.next c.optional_number.new.next [] (written u.number) c.optional_number.result
    (moved source c.args.marks.now c.args.resolutions.now (item.Used 0 (port_naming scope u)) c.args.next.now c.pass_one.new.next c.pass_one.ensures)
    (of_optional_number source c.args.marks.now c.args.resolutions.now scope (value_items scope u.number) c.pass_one.new.next c.optional_number.new.next u.number c.optional_number.result (c.optional_number.ensures source scope))
