use Rattle.fp_run_laws.proofs.Told.{told_due, told_notes, told_none, told_halts}
use Rattle.fp_run_laws.proofs.typing_laws.due_asks.Goals as goal

pub returns-clause-fit : goal.returns-clause-fit
returns-clause-fit c = λ t program sound good a es x told i q due. told_due t program sound good a es x told i q due

pub returns-clause-notes : goal.returns-clause-notes
returns-clause-notes c = λ t program sound good a es x told i r due. told_notes t program sound good a es x told i r due

pub returns-clause-none : goal.returns-clause-none
returns-clause-none c = λ t program sound good a es x here told. told_none t program sound good a es x here told

pub returns-clause-halted : goal.returns-clause-halted
returns-clause-halted c = λ t program a es x told. told_halts t program a es x told
