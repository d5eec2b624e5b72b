use Rattle.std.proofs.Common.{◌++◌, ℕ}
use Rattle.fp_tables.specs.declared.kind.Kind.{Kind}
use Rattle.fp_tables.specs.declared.kind.Form.TheVariants as form
use Rattle.fp_tree.specs.declared.definition.Def.TheVariants as def
use Rattle.fp_meaning.specs.Layout.{expression_items, type_items}
use Rattle.fp_meaning.specs.Names.{in_optional}
use Rattle.fp_type_forms.specs.Written.{FormIs, IsArraySize, KindIs, text_in, type_here}
use Rattle.fp_type_forms.proofs.Only.{only_same}
use Rattle.fp_type_forms.proofs.Taking.{taken_as, taken_both, whole_written}
use Rattle.fp_type_forms.proofs.wholes.array_written.Goals as goal

pub returns : goal.returns
returns c source h =
    let scope = c.args.scope.now in
    let d = c.args.kind.now in
    let sized = expression_items 0 scope d.size in
    let named = type_items 0 scope d.element in
    whole_written source c.args.marks.now c.args.resolutions.now (type_here scope d.name (def.Array d) d.default d.note) (record { name = c.in_ok-name.name; form = c.in_ok-form.form; default = c.in_ok-default.default; note = c.in_ok-note.note })
    (sized ++ named) (in_optional (expression_items 0 scope) d.default) c.args.start c.kind_taken-element.new.next c.own_taken.new.next c.in_ok-name.ensures c.in_ok-note.ensures
    (taken_as source c.args.marks.now c.args.resolutions.now (sized ++ named) c.args.start c.kind_taken-element.new.next (only_same (FormIs source scope (def.Array d)) c.in_ok-form.ensures)
    (taken_both source c.args.marks.now c.args.resolutions.now (IsArraySize source scope d.size) (KindIs source scope d.element.form) (λ (n : ℕ) (k : Kind). form.Array n k (text_in d.format))
    c.size_taken-size.result c.kind_taken-element.result sized named c.args.start c.size_taken-size.new.next c.kind_taken-element.new.next
    (c.size_taken-size.ensures source scope 0 d.size) (c.kind_taken-element.ensures source scope 0)))
    (c.in_ok-default.ensures source scope 0) h
