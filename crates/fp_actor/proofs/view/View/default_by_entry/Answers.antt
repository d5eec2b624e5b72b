use Rattle.fp_actor.proofs.view.View.default_by_entry.Goals as goal

pub returns-in-Enter : goal.returns-in-Enter
returns-in-Enter c = rw c.in-Enter.is (c.default_result.ensures c.args.self.now.program.now)

pub returns-in-Guard : goal.returns-in-Guard
returns-in-Guard c = rw c.in-Guard.is (c.default_result-in-Guard.ensures c.args.self.now.program.now)
