use Rattle.fp_gather.proofs.GatheredFiles.{same_source}
use Rattle.fp_gather.proofs.gathering.concluding.conclude.Goals as goal

pub returns : goal.returns
returns c = λ walked k. (
  same_source c.args.progress.names c.in_ok-units.units walked c.args.files k.names c.in_ok-units.ensures,
  record { names = k.names; tokens = k.tokens; grammar = k.grammar; includes = k.includes },
)
