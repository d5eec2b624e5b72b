use Rattle.std.proofs.Common.{List, None}
use Rattle.fp_tables.specs.declared.kind.Kind.{Kind}
use Rattle.fp_tables.specs.declared.kind.Form.TheVariants as form
use Rattle.fp_tree.specs.declared.definition.Def.TheVariants as def
use Rattle.fp_meaning.specs.Layout.{type_items}
use Rattle.fp_type_forms.specs.Written.{FormIs, KindIs, type_here}
use Rattle.fp_type_forms.proofs.Only.{only_same, only_mapped}
use Rattle.fp_type_forms.proofs.Taking.{taken_as, taken_nothing, whole_written}
use Rattle.std.proofs.Common.{[], sym, subst}
use Rattle.std.proofs.lemmas.List.{append-nil}
use Rattle.fp_meaning.specs.declared.item.Item.{Item}
use Rattle.fp_type_sizes.specs.declared.written.Own.TheVariants as own
use Rattle.fp_type_forms.specs.Resolved.{AreResolved}
use Rattle.fp_type_forms.proofs.wholes.alias_written.Goals as goal

pub returns : goal.returns
returns c source h =
    let scope = c.args.scope.now in
    let d = c.args.kind.now in
    let named = type_items 0 scope d.target in
    whole_written source c.args.marks.now c.args.resolutions.now (type_here scope d.name (def.Alias d) None d.note) (record { name = c.in_ok-name.name; form = c.alias_of-form.result; default = own.Unwritten; note = c.in_ok-note.note })
    named [] c.args.start c.kind_taken-target.new.next c.kind_taken-target.new.next c.in_ok-name.ensures c.in_ok-note.ensures
    (taken_as source c.args.marks.now c.args.resolutions.now named c.args.start c.kind_taken-target.new.next
    (λ only. only_same (FormIs source scope (def.Alias d)) c.alias_of-form.ensures (only_mapped (KindIs source scope d.target.form) (λ (k : Kind). form.Alias k) c.kind_taken-target.result only))
    (c.kind_taken-target.ensures source scope 0))
    (taken_nothing source c.args.marks.now c.args.resolutions.now c.kind_taken-target.new.next tt)
    (subst (λ (l : List Item). AreResolved source c.args.marks.now c.args.resolutions.now l c.args.start) (sym (append-nil named)) h)
