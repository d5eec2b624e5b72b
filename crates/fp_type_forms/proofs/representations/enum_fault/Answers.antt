use Rattle.std.proofs.Common.{◌++◌, length}
use Rattle.fp_meaning.specs.Layout.{constant_items, expression_items, type_items}
use Rattle.fp_meaning.specs.Names.{in_optional}
use Rattle.fp_type_forms.proofs.Adding.{resolved_front}
use Rattle.fp_type_forms.proofs.Represented.{enum_least}
use Rattle.fp_type_forms.proofs.Taking.{taken_all, taken_as, taken_then}
use Rattle.fp_type_forms.proofs.representations.enum_fault.Goals as goal

pub returns : goal.returns
returns c ws are source scope h =
    let d = c.args.kind.now in
    let named = in_optional (type_items 0 scope) d.repr in
    let listed = constant_items scope d 0 d.constants in
    taken_all source c.args.marks.now c.args.resolutions.now (named ++ listed) c.args.start c.beyond_taken-beyond.new.next
    (taken_as source c.args.marks.now c.args.resolutions.now (named ++ listed) c.args.start c.beyond_taken-beyond.new.next
    (λ t. enum_least ws c.args.extents.now are source scope d c.repr_taken-named.result c.extent_of-extent.result c.range_in-range.result c.repr_fault-bad.result c.beyond_taken-beyond.result c.lesser.result
    c.extent_of-extent.ensures c.repr_fault-bad.ensures c.range_in-range.ensures c.lesser.ensures t.0 t.1)
    (taken_then source c.args.marks.now c.args.resolutions.now named listed c.args.start c.repr_taken-named.new.next c.beyond_taken-beyond.new.next (c.repr_taken-named.ensures source scope) (c.beyond_taken-beyond.ensures source scope)))
    (resolved_front source c.args.marks.now c.args.resolutions.now (named ++ listed) (in_optional (expression_items (length d.constants) scope) d.default) c.args.start h)
