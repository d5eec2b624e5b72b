use Rattle.std.proofs.Common.{flat_map}
use Rattle.fp_meaning.specs.Layout.{formal_items, type_items}
use Rattle.fp_meaning.specs.Names.{in_optional}
use Rattle.fp_type_forms.proofs.Breaking.{either_taken}
use Rattle.fp_type_forms.proofs.faults.port_fault.Goals as goal

pub returns : goal.returns
returns c source scope =
    either_taken source c.args.marks.now c.args.resolutions.now (flat_map (formal_items scope) c.args.formals.now) (in_optional (type_items 0 scope) c.args.answer.now) c.args.next.now c.formals_fault-first.new.next
    c.optional_name-second.new.next c.formals_fault-first.result c.optional_name-second.result c.lesser.result c.lesser.ensures (c.formals_fault-first.ensures source scope) (c.optional_name-second.ensures source scope)
