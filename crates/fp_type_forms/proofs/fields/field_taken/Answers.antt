use Rattle.fp_base.proofs.Options.{if_ok_then}
use Rattle.fp_meaning.specs.Layout.{expression_items, type_items, field_items}
use Rattle.fp_meaning.specs.Names.{in_optional}
use Rattle.fp_type_forms.specs.Written.{FieldIs, KindIs, SizeIs, field_with}
use Rattle.fp_type_forms.proofs.Only.{only_same}
use Rattle.fp_type_forms.proofs.Taking.{taken_as, taken_both}
use Rattle.fp_type_forms.proofs.fields.field_taken.Goals as goal

pub returns : goal.returns
returns c =
    if_ok_then c.field_of.result _ _
    (λ one e source scope.
    let f = c.args.field.now in
    taken_as source c.args.marks.now c.args.resolutions.now (field_items scope f) c.args.next.now c.kind_taken-kind.new.next (only_same (FieldIs source scope f) e)
    (taken_both source c.args.marks.now c.args.resolutions.now (SizeIs source scope f.size) (KindIs source scope f.of.form) (field_with f) c.member_size-size.result c.kind_taken-kind.result
    (in_optional (expression_items 0 scope) f.size) (type_items 0 scope f.of) c.args.next.now c.member_size-size.new.next c.kind_taken-kind.new.next
    (c.member_size-size.ensures source scope) (c.kind_taken-kind.ensures source scope 0)))
    c.field_of.ensures
