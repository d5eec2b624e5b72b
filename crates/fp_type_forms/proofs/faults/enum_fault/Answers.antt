use Rattle.std.proofs.Common.{sym}
use Rattle.fp_meaning.specs.Layout.{constant_items, type_items}
use Rattle.fp_meaning.specs.Names.{in_optional}
use Rattle.fp_type_forms.proofs.Breaking.{either_taken}
use Rattle.fp_base.proofs.Calculus.{least_along, least_either}
use Rattle.fp_type_forms.proofs.Taking.{taken_as}
use Rattle.fp_type_forms.proofs.faults.enum_fault.Goals as goal

pub returns : goal.returns
returns c source scope =
    let d = c.args.kind.now in
    either_taken source c.args.marks.now c.args.resolutions.now (in_optional (type_items 0 scope) d.repr) (constant_items scope d 0 d.constants) c.args.next.now c.optional_name-repr.new.next
    c.numbers_fault-numbers.new.next c.optional_name-repr.result c.lesser-others.result c.lesser.result c.lesser.ensures (c.optional_name-repr.ensures source scope)
    (taken_as source c.args.marks.now c.args.resolutions.now (constant_items scope d 0 d.constants) c.optional_name-repr.new.next c.numbers_fault-numbers.new.next
    (λ least. least_along (sym c.lesser-others.ensures) (least_either c.numbers_fault-numbers.result c.mixed_fault-mixed.result least c.mixed_fault-mixed.ensures)) (c.numbers_fault-numbers.ensures source scope))
