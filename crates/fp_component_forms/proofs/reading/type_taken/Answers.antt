use Rattle.fp_meaning.specs.Layout.{type_items}
use Rattle.fp_type_forms.proofs.Taking.{taken_as}
use Rattle.fp_component_forms.proofs.Readers.{type_found}
use Rattle.fp_component_forms.proofs.reading.type_taken.Goals as goal

pub returns : goal.returns
returns c source scope =
    taken_as source c.args.marks.now c.args.resolutions.now (type_items 0 scope c.args.name.now) c.args.next.now c.kind_taken-found.new.next
    (λ only. type_found source c.args.marks.now c.args.resolutions.now scope c.args.name.now c.kind_taken-found.result c.kind_there.result c.kind_there.ensures only) (c.kind_taken-found.ensures source scope 0)
