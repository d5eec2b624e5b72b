use Rattle.std.proofs.Common.{◌∙◌}
use Rattle.fp_machines.proofs.Going.{goes_in, ends_there}
use Rattle.fp_machines.proofs.scopes.inward.Goals as goal

pub returns-in-None : goal.returns-in-None
returns-in-None c = λ es items a.
    ends_there es items c.args.names.now c.loop-name.name-index c.loop-name.at c.name-item.result c.entered.result c.loop-name-test.true c.name-item.is
    (c.entered.ensures es items a) c.in-None.is
    ∙ c.loop-name.invariant es items a

pub loop-name-preserved : goal.loop-name-preserved
loop-name-preserved c = λ es items a.
    goes_in es items c.args.names.now c.loop-name.name-index c.loop-name.at c.in-Some.inner c.name-item.result c.entered.result c.loop-name-test.true c.name-item.is
    (c.entered.ensures es items a) c.in-Some.is
    ∙ c.loop-name.invariant es items a
