use Rattle.std.proofs.Common.{sym, ◌∙◌}
use Rattle.fp_base.proofs.Options.{if_ok_then}
use Rattle.fp_types.proofs.Complete.{named_default, kind_named, plain_default_is, default_at_kind}
use Rattle.fp_types.proofs.completing.default_of_kind.Goals as goal

pub returns-in-Some : goal.returns-in-Some
returns-in-Some c =
    if_ok_then c.copied.result _ _
    (λ o e ws sound. default_at_kind ws c.args.defaults.now c.args.kind _ o _ (kind_named ws c.args.kind c.in-Some.number (sym c.position_in.ensures ∙ c.in-Some.is)) (e ∙ c.default_at.ensures)
    (named_default ws c.args.defaults.now sound c.in-Some.number)) c.copied.ensures

pub returns-in-None : goal.returns-in-None
returns-in-None c ws sound = rw c.plain_default.ensures (plain_default_is ws c.args.kind (sym c.position_in.ensures ∙ c.in-None.is))
