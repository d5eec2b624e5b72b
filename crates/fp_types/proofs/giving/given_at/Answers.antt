use Rattle.fp_types.proofs.Passed.{given_is}
use Rattle.fp_base.proofs.Options.{if_ok_then}
use Rattle.fp_types.proofs.giving.given_at.Goals as goal

pub returns : goal.returns
returns c =
    if_ok_then c.given_of.result _ _
    (λ o e. given_is c.args.types.now c.args.defaults.now c.requires.defaults c.args.at c.written_at-written.result.now c.written_at-written.ensures c.default_at-default.result.now o c.default_at-default.ensures e) c.given_of.ensures
