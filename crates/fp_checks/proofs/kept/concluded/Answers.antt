use Rattle.fp_checks.proofs.kept.concluded.Goals as goal

pub log_of-requires-clause-run : goal.log_of-requires-clause-run
log_of-requires-clause-run c = (c.in_ok-whole.ensures.ends.0, c.in_ok-whole.ensures.ends.1)
