use Rattle.fp_scenario_run.proofs.logging.log_of.Goals as goal

pub print_log-requires-clause-named : goal.print_log-requires-clause-named
print_log-requires-clause-named c = (c.fitting_runs.ensures.printable c.args.tables.now c.args.program.now c.requires.sound c.requires.good c.args.entries.now c.requires.run).0

pub print_log-requires-clause-commands : goal.print_log-requires-clause-commands
print_log-requires-clause-commands c = (c.fitting_runs.ensures.printable c.args.tables.now c.args.program.now c.requires.sound c.requires.good c.args.entries.now c.requires.run).1
