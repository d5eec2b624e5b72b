use Rattle.fp_meaning.specs.Layout.{type_items}
use Rattle.fp_component_forms.specs.Taken.{TypeWhere}
use Rattle.fp_component_forms.proofs.Readers.{taken_with, taken_without}
use Rattle.fp_component_forms.proofs.reading.result_taken.Goals as goal

pub returns-in-Some : goal.returns-in-Some
returns-in-Some c source scope =
    taken_with source c.args.marks.now c.args.resolutions.now (type_items 0 scope) (TypeWhere source scope) c.args.name.now _ c.type_taken.result c.args.next.now c.type_taken.new.next c.in-Some.is (c.type_taken.ensures source scope)

pub returns-in-None : goal.returns-in-None
returns-in-None c source scope =
    taken_without source c.args.marks.now c.args.resolutions.now (type_items 0 scope) (TypeWhere source scope) c.args.name.now c.args.next.now c.in-None.is
