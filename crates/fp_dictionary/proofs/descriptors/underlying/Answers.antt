use Rattle.std.proofs.Common.{suc, length, sym, ◌∙◌}
use Rattle.fp_dictionary.proofs.Targets.{same_target}
use Rattle.fp_dictionary.proofs.descriptors.underlying.Goals as goal

pub returns-in-Some : goal.returns-in-Some
returns-in-Some c =
    let types = c.args.types.now in
    c.target.ensures ∙ sym (c.in-Some.ensures (length types)) ∙ sym (same_target types (suc (length types)) c.args.kind)

pub returns-in-None : goal.returns-in-None
returns-in-None c =
    let types = c.args.types.now in
    sym (c.in-None.ensures (length types)) ∙ sym (same_target types (suc (length types)) c.args.kind)
