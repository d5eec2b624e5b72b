use Rattle.std.proofs.Common.{◌++◌}
use Rattle.fp_meaning.specs.Layout.{limits_items, type_items, value_items}
use Rattle.fp_meaning.specs.Names.{in_optional}
use Rattle.fp_type_forms.proofs.Taking.{taken_as}
use Rattle.fp_part_values.proofs.Fits.{integer_only}
use Rattle.fp_part_values.proofs.Passed.{sides, taken_front}
use Rattle.fp_part_values.proofs.channels.channel_fault.Goals as goal

-- the type and the number, then the limits on either side, which rest on the type
pub returns : goal.returns
returns c source scope =
    let x = c.args.channel.now in
    let marks = c.args.marks.now in
    let rs = c.args.resolutions.now in
    let start = c.args.next.now in
    let t = type_items 0 scope x.of in
    let id = value_items scope x.id in
    let low = in_optional (limits_items scope) x.low in
    let high = in_optional (limits_items scope) x.high in
    let wanted = integer_only c.args.types.now c.args.extents.now c.requires source scope x.of.form c.kind_taken-named.result c.integer_in-kind.result c.integer_in-kind.ensures in
    sides source marks rs (t ++ id) low high start c.pass_value.new.next c.side_fault-low.new.next c.side_fault-high.new.next c.side_fault-low.result c.side_fault-high.result c.lesser.result c.lesser.ensures
    (taken_front source marks rs t id start c.kind_taken-named.new.next c.pass_value.new.next (taken_as source marks rs t start c.kind_taken-named.new.next wanted (c.kind_taken-named.ensures source scope 0)) (c.pass_value.ensures source marks scope))
    (λ only. c.side_fault-low.ensures source scope x.of.form only)
    (λ only. c.side_fault-high.ensures source scope x.of.form only)
