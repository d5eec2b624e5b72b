use Rattle.fp_base.proofs.Options.{if_ok_then}
use Rattle.fp_outside.proofs.Remaining.{left_whole}
use Rattle.fp_outside.proofs.host.read_all.Goals as goal

pub returns-in-Ok-clause-bytes : goal.returns-in-Ok-clause-bytes
returns-in-Ok-clause-bytes g c =
    if_ok_then c.within_limit.result _ _
    (λ row r. left_whole g.S.Read.remaining c.args.reader c.take.result.inner c.take.result.limit _ _ row c.take.ensures.limit c.take.ensures.inner c.new-bytes.ensures.items c.in-Ok.ensures.bytes r)
    c.within_limit.ensures.bytes
