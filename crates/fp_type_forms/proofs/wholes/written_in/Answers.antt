use Rattle.std.proofs.Common.{Some, sym, ap, ◌∙◌}
use Rattle.fp_tree.specs.declared.definition.Def.TheVariants as def
use Rattle.fp_type_forms.proofs.Taking.{written_by}
use Rattle.fp_type_forms.proofs.wholes.written_in.Goals as goal

pub returns-in_ok-abstract_written-in-Abstract : goal.returns-in_ok-abstract_written-in-Abstract
returns-in_ok-abstract_written-in-Abstract c =
    written_by c.args.marks.now c.args.resolutions.now c.args.start c.args.scope.now c.args.definition.now (def.Abstract c.in-Abstract.kind)
    (Some c.in_ok-abstract_written-in-Abstract.field-0) c.in-Abstract.is (λ source h. (c.in_ok-abstract_written-in-Abstract.ensures source tt, tt))

pub returns-in_ok-written-in-Alias : goal.returns-in_ok-written-in-Alias
returns-in_ok-written-in-Alias c =
    written_by c.args.marks.now c.args.resolutions.now c.args.start c.args.scope.now c.args.definition.now (def.Alias c.get.result.now) (Some c.in_ok-written-in-Alias.written) (c.in-Alias.is ∙ ap (λ d. def.Alias d) (sym c.get.ensures))
    (λ source h. (c.in_ok-written-in-Alias.ensures source h, tt))

pub returns-in_ok-written-in-Array : goal.returns-in_ok-written-in-Array
returns-in_ok-written-in-Array c =
    written_by c.args.marks.now c.args.resolutions.now c.args.start c.args.scope.now c.args.definition.now (def.Array c.get-in-Array.result.now) (Some c.in_ok-written-in-Array.written) (c.in-Array.is ∙ ap (λ d. def.Array d) (sym c.get-in-Array.ensures))
    (λ source h. (c.in_ok-written-in-Array.ensures source h, tt))

pub returns-in_ok-written-in-Struct : goal.returns-in_ok-written-in-Struct
returns-in_ok-written-in-Struct c =
    written_by c.args.marks.now c.args.resolutions.now c.args.start c.args.scope.now c.args.definition.now (def.Struct c.get-in-Struct.result.now) (Some c.in_ok-written-in-Struct.written) (c.in-Struct.is ∙ ap (λ d. def.Struct d) (sym c.get-in-Struct.ensures))
    (λ source h. (c.in_ok-written-in-Struct.ensures source h, tt))

pub returns-in_ok-written-in-Enum : goal.returns-in_ok-written-in-Enum
returns-in_ok-written-in-Enum c =
    written_by c.args.marks.now c.args.resolutions.now c.args.start c.args.scope.now c.args.definition.now (def.Enum c.get-in-Enum.result.now) (Some c.in_ok-written-in-Enum.written) (c.in-Enum.is ∙ ap (λ d. def.Enum d) (sym c.get-in-Enum.ensures))
    (λ source h. (c.in_ok-written-in-Enum.ensures source h, tt))
