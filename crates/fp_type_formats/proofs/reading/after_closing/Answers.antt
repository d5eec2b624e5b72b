use Rattle.fp_formats.proofs.Braces.{closes}
use Rattle.fp_type_formats.proofs.Progress.{closing_lone, next_escape}
use Rattle.fp_type_formats.proofs.reading.after_closing.Goals as goal

pub returns-in-Some : goal.returns-in-Some
returns-in-Some c = next_escape 125 c.args.behind.now c.in-Some.rest.now c.in-Some.ensures closes

pub returns-in-None : goal.returns-in-None
returns-in-None c = closing_lone c.args.behind.now c.in-None.ensures
