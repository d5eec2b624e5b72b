use Rattle.std.proofs.Common.{◌++◌, List, length}
use Rattle.fp_tables.specs.declared.kind.Kind.{Kind}
use Rattle.fp_tables.specs.declared.kind.Form.TheVariants as form
use Rattle.fp_tables.specs.declared.kind.Constant.{Constant}
use Rattle.fp_tree.specs.declared.definition.Def.TheVariants as def
use Rattle.fp_meaning.specs.Layout.{expression_items, type_items, constant_items}
use Rattle.fp_meaning.specs.Names.{in_optional}
use Rattle.fp_type_forms.specs.Written.{ConstantsAre, FormIs, ReprIs, type_here}
use Rattle.fp_type_forms.proofs.Only.{only_same}
use Rattle.fp_type_forms.proofs.Taking.{taken_as, taken_both, whole_written}
use Rattle.fp_type_forms.proofs.wholes.enum_written.Goals as goal

pub returns : goal.returns
returns c source h =
    let scope = c.args.scope.now in
    let d = c.args.kind.now in
    let named = in_optional (type_items 0 scope) d.repr in
    let listed = constant_items scope d 0 d.constants in
    whole_written source c.args.marks.now c.args.resolutions.now (type_here scope d.name (def.Enum d) d.default d.note) (record { name = c.in_ok-name.name; form = c.enum_of-form.result; default = c.in_ok-default.default; note = c.in_ok-note.note })
    (named ++ listed) (in_optional (expression_items (length d.constants) scope) d.default) c.args.start c.constants_taken.new.next c.own_taken.new.next
    c.in_ok-name.ensures c.in_ok-note.ensures
    (taken_as source c.args.marks.now c.args.resolutions.now (named ++ listed) c.args.start c.constants_taken.new.next (only_same (FormIs source scope (def.Enum d)) c.enum_of-form.ensures)
    (taken_both source c.args.marks.now c.args.resolutions.now (ReprIs source scope d.repr) (ConstantsAre source scope d d.constants) (λ (k : Kind) (xs : List Constant). form.Enum k xs)
    c.repr_taken-repr.result c.in_ok-constants.constants named listed c.args.start c.repr_taken-repr.new.next c.constants_taken.new.next
    (c.repr_taken-repr.ensures source scope) (c.in_ok-constants.ensures source scope c.in_ok-name.ensures)))
    (c.in_ok-default.ensures source scope (length d.constants)) h
