use Rattle.fp_scenario_run.proofs.scenario.run_told.Goals as goal

pub text_of-requires-clause-run : goal.text_of-requires-clause-run
text_of-requires-clause-run g c = (c.in_ok-ran.ensures.ends.0, c.in_ok-ran.ensures.ends.1)

pub returns : goal.returns
returns g c = (c.in_ok-ran.ran.0, c.in_ok-ran.ensures.sorted, c.in_ok-ran.ensures.ends, c.in_ok-text.ensures)
