use Rattle.std.proofs.lemmas.Result.{IfErr-weaker, on_ok_weaker}
use Rattle.fp_model.proofs.Stopping.{names_unbroken, uses_stop}
use Rattle.fp_model.proofs.naming.uses_of.Goals as goal

pub returns-clause-unbroken : goal.returns-clause-unbroken
returns-clause-unbroken c = on_ok_weaker c.uses.result (names_unbroken c.args.source.now c.requires.once) c.uses.ensures.meant

pub returns-clause-stop : goal.returns-clause-stop
returns-clause-stop c = IfErr-weaker c.uses.result _ _ (uses_stop c.args.source.now c.requires.once) c.uses.ensures.stop
