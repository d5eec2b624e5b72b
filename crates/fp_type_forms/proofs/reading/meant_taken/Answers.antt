use Rattle.std.proofs.Common.{ap, ◌∙◌}
use Rattle.fp_type_forms.specs.Resolved.{number_meant}
use Rattle.fp_type_forms.proofs.Taking.{taken_meant}
use Rattle.fp_type_forms.proofs.reading.meant_taken.Goals as goal

pub returns : goal.returns
returns c source marks since n other =
    taken_meant source marks c.args.resolutions.now n since c.args.next.now c.taken.new.next c.meant_of.result other (c.meant_of.ensures ∙ ap number_meant c.taken.ensures.found)
    c.taken.ensures.moves
