use Rattle.fp_gather.proofs.FirstInFiles.{first_is}
use Rattle.fp_gather.proofs.gathering.judging.first_broken.Goals as goal

pub returns : goal.returns
returns c = λ walked k.
    first_is walked c.args.concluded.now.source c.earlier.result c.earlier-behind.result c.args.concluded.now.tokens c.args.concluded.now.grammar c.in_ok-includes.includes
    c.earlier-behind.ensures c.earlier.ensures k.tokens k.grammar (c.in_ok-includes.ensures walked k)
