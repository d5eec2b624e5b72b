use Rattle.fp_meaning.specs.Layout.{expression_items, type_items}
use Rattle.fp_meaning.specs.Names.{in_optional}
use Rattle.fp_type_forms.proofs.Breaking.{either_taken}
use Rattle.fp_type_forms.proofs.faults.member_fault.Goals as goal

pub returns : goal.returns
returns c source scope =
    either_taken source c.args.marks.now c.args.resolutions.now (in_optional (expression_items 0 scope) c.args.field.now.size) (type_items 0 scope c.args.field.now.of) c.args.next.now c.optional_size-first.new.next
    c.name_fault-second.new.next c.optional_size-first.result c.name_fault-second.result c.lesser.result c.lesser.ensures (c.optional_size-first.ensures source scope 0) (c.name_fault-second.ensures source scope 0)
