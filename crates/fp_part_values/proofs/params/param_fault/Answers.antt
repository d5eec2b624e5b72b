use Rattle.std.proofs.Common.{◌++◌}
use Rattle.fp_meaning.specs.Layout.{type_items, value_items}
use Rattle.fp_part_values.proofs.Passed.{taken_front, taken_with}
use Rattle.fp_part_values.proofs.params.param_fault.Goals as goal

-- the type, then the default, then three numbers
pub returns : goal.returns
returns c source scope =
    let p = c.args.param.now in
    let marks = c.args.marks.now in
    let rs = c.args.resolutions.now in
    let start = c.args.next.now in
    let t = type_items 0 scope p.of in
    let d = value_items scope p.default in
    let id = value_items scope p.id in
    let set = value_items scope p.set in
    let save = value_items scope p.save in
    taken_front source marks rs (t ++ d ++ id ++ set) save start c.pass_value-2.new.next c.pass_value-3.new.next
    (taken_front source marks rs (t ++ d ++ id) set start c.pass_value.new.next c.pass_value-2.new.next
    (taken_front source marks rs (t ++ d) id start c.default_fault-fault.new.next c.pass_value.new.next
    (taken_with source marks rs t d start c.kind_taken-kind.new.next c.default_fault-fault.new.next (c.kind_taken-kind.ensures source scope 0) (λ only. c.default_fault-fault.ensures source scope p.of.form only))
    (c.pass_value.ensures source marks scope))
    (c.pass_value-2.ensures source marks scope))
    (c.pass_value-3.ensures source marks scope)
