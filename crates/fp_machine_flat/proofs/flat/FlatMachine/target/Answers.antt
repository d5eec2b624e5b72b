use Rattle.fp_machine_flat.proofs.flat.FlatMachine.target.Goals as goal

pub returns-clause-walks : goal.returns-clause-walks
returns-clause-walks c = rw (c.transition_found.ensures, ← c.self.view_is) ((c.self.invariant.moves c.args.leaf c.args.signal).walks)

pub returns-clause-guards : goal.returns-clause-guards
returns-clause-guards c = rw (c.transition_found.ensures, ← c.self.view_is) ((c.self.invariant.moves c.args.leaf c.args.signal).guards)

pub returns-clause-others : goal.returns-clause-others
returns-clause-others c = rw (c.transition_found.ensures, ← c.self.view_is) ((c.self.invariant.moves c.args.leaf c.args.signal).others)
