use Rattle.std.proofs.Common.{None, refl}
use Rattle.fp_type_forms.proofs.Taking.{taken_nothing}
use Rattle.fp_source_parts.proofs.Taken.{type_by}
use Rattle.fp_source_parts.proofs.kinds.type_taken.Goals as goal

pub returns-in-Some : goal.returns-in-Some
returns-in-Some c source scope =
    type_by source c.args.marks.now c.args.resolutions.now scope c.args.name.now _ c.args.next.now c.kind_taken.new.next c.kind_taken.result c.in-Some.is (c.kind_taken.ensures source scope 0)

pub returns-in-None : goal.returns-in-None
returns-in-None c source scope =
    type_by source c.args.marks.now c.args.resolutions.now scope c.args.name.now None c.args.next.now c.args.next.now None c.in-None.is
    (taken_nothing source c.args.marks.now c.args.resolutions.now c.args.next.now refl)
