use Rattle.fp_formats.proofs.Braces.{opens}
use Rattle.fp_type_formats.proofs.Progress.{next_escape}
use Rattle.fp_type_formats.proofs.reading.after_opening.Goals as goal

pub returns-in-Some : goal.returns-in-Some
returns-in-Some c = next_escape 123 c.args.behind.now c.in-Some.rest.now c.in-Some.ensures opens
