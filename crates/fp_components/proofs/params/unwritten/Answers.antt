use Rattle.fp_components.proofs.Valued.{not_none}
use Rattle.fp_components.proofs.params.unwritten.Goals as goal

pub returns-in-Some : goal.returns-in-Some
returns-in-Some c w is = c.in_ok-default.ensures.holds c.in-Some.value c.in-Some.is

pub returns-in-None : goal.returns-in-None
returns-in-None c w is = not_none c.args.types.now.written.now c.args.kind c.in_ok-default.default w c.in_ok-default.ensures c.in-None.is is
