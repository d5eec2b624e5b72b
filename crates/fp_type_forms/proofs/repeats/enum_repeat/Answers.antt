use Rattle.std.proofs.Common.{◌++◌, length}
use Rattle.fp_base.proofs.Options.{if_ok_then}
use Rattle.fp_meaning.specs.Layout.{constant_items, expression_items, type_items}
use Rattle.fp_meaning.specs.Names.{in_optional}
use Rattle.fp_type_forms.proofs.Adding.{resolved_front}
use Rattle.fp_type_forms.proofs.Taking.{taken_all, taken_as, taken_then}
use Rattle.fp_type_forms.proofs.repeats.enum_repeat.Goals as goal

pub returns : goal.returns
returns c =
    if_ok_then c.repeat_taken.result _ _
    (λ one least source scope h.
    let d = c.args.kind.now in
    let named = in_optional (type_items 0 scope) d.repr in
    let listed = constant_items scope d 0 d.constants in
    taken_all source c.args.marks.now c.args.resolutions.now (named ++ listed) c.args.start c.repeat_taken.new.next
    (taken_as source c.args.marks.now c.args.resolutions.now (named ++ listed) c.args.start c.repeat_taken.new.next (λ t. t.1)
    (taken_then source c.args.marks.now c.args.resolutions.now named listed c.args.start c.repr_taken-repr.new.next c.repeat_taken.new.next (c.repr_taken-repr.ensures source scope) (least source scope)))
    (resolved_front source c.args.marks.now c.args.resolutions.now (named ++ listed) (in_optional (expression_items (length d.constants) scope) d.default) c.args.start h))
    c.repeat_taken.ensures
