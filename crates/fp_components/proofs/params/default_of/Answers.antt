use Rattle.fp_components.proofs.Valued.{by_written, by_type}
use Rattle.fp_components.proofs.params.default_of.Goals as goal

pub returns-in-Some : goal.returns-in-Some
returns-in-Some c whole =
    by_written c.args.types.now.written.now c.args.param.now.kind c.converted.result c.args.param.now.default c.in-Some.value c.in-Some.is c.converted.ensures whole.0 whole.1

pub returns-in-None : goal.returns-in-None
returns-in-None c whole = by_type c.args.types.now.written.now c.args.param.now.kind c.unwritten.result c.args.param.now.default c.in-None.is c.unwritten.ensures whole.0 whole.1
