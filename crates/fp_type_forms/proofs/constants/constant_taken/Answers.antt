use Rattle.fp_base.proofs.Options.{if_ok_then}
use Rattle.fp_type_forms.proofs.Taking.{taken_enumerated}
use Rattle.fp_type_forms.proofs.constants.constant_taken.Goals as goal

pub returns : goal.returns
returns c =
    if_ok_then c.constant_of.result _ _
    (λ one e source scope d same named.
    taken_enumerated source c.args.marks.now c.args.resolutions.now scope d c.args.position c.args.constant.now c.args.next.now c.number_taken-written.new.next c.args.implied c.args.of.now c.number_taken-written.result c.number_for-number.result one
    same named c.number_taken-written.ensures.number c.number_taken-written.ensures.moves c.number_for-number.ensures e)
    c.constant_of.ensures
