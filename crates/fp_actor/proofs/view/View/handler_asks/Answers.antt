use Rattle.fp_actor.proofs.view.View.handler_asks.Goals as goal

pub returns-in-Call : goal.returns-in-Call
returns-in-Call c = λ n trace from. rw c.in-Call.is (rw c.begins.ensures at (c.calls.ensures c.args.self.now.program.now))

pub returns-in-Command : goal.returns-in-Command
returns-in-Command c = λ n trace from. rw c.in-Command.is (rw c.begins-in-Command.ensures at (c.commands.ensures c.args.self.now.program.now))
