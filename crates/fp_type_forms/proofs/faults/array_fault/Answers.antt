use Rattle.std.proofs.Common.{refl}
use Rattle.fp_meaning.specs.Layout.{expression_items, type_items}
use Rattle.fp_type_forms.proofs.Breaking.{either_taken}
use Rattle.fp_type_forms.proofs.faults.array_fault.Goals as goal

pub returns : goal.returns
returns c source scope =
    either_taken source c.args.marks.now c.args.resolutions.now (expression_items 0 scope c.args.size.now) (type_items 0 scope c.args.element.now) c.args.next.now c.expression_size-first.new.next c.name_fault-second.new.next
    c.expression_size-first.result c.name_fault-second.result c.lesser.result c.lesser.ensures (c.expression_size-first.ensures source scope 0 c.args.size.now refl) (c.name_fault-second.ensures source scope 0)
