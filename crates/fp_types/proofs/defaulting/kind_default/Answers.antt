use Rattle.fp_base.proofs.Options.{if_ok_then}
use Rattle.fp_types.proofs.Passed.{are_sound, default_if}
use Rattle.fp_types.proofs.defaulting.kind_default.Goals as goal

pub returns : goal.returns
returns c =
    let ws = c.args.types.now in
    let table = c.args.defaults.now in
    if_ok_then c.default_of_kind.result _ _ (λ o h. default_if ws table c.requires c.args.kind o (h ws (are_sound ws table c.requires))) c.default_of_kind.ensures
