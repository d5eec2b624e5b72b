use Rattle.fp_run_laws.proofs.Dues.{answers_it, is_above}
use Rattle.fp_run_laws.proofs.laws.answering.Goals as goal

pub returns-clause-answers : goal.returns-clause-answers
returns-clause-answers c = λ tables program a i s u x ask e is_due part. answers_it tables program a i s u x ask e is_due part

pub returns-clause-above : goal.returns-clause-above
returns-clause-above c = λ tables program a i s u x ask e part. is_above tables program a i s u x ask e part
