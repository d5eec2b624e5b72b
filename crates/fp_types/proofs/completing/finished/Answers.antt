use Rattle.fp_types.proofs.Complete.{finished_none, finished_as, finished_of}
use Rattle.fp_types.proofs.completing.finished.Goals as goal

pub returns-in-None : goal.returns-in-None
returns-in-None c ws n parts sound h = finished_none ws c.args.defaults.now n c.args.rest c.args.fields.now parts (finished_as ws c.args.defaults.now n c.args.rest c.args.fields.now parts c.args.given c.in-None.is h)

pub returns-in_ok-made-in-Some : goal.returns-in_ok-made-in-Some
returns-in_ok-made-in-Some c ws n parts sound h =
    finished_of ws c.args.defaults.now n c.args.rest c.args.fields.now parts c.in-Some.given c.as_slice.result.now c.args.given c.in_ok-made-in-Some.made _ c.in-Some.is h c.as_slice.ensures
    (c.in_ok-made-in-Some.ensures ws sound) c.structured.ensures
