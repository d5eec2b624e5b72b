use Rattle.std.proofs.Common.{arith}
use Rattle.std.proofs.lemmas.Bool.Decides.{nat_tests}
use Rattle.fp_type_formats.proofs.Progress.{next_plain}
use Rattle.fp_type_formats.proofs.reading.first_mark.Goals as goal

pub returns-in_default : goal.returns-in_default
returns-in_default c = next_plain c.args.first c.args.behind.now (grind (arith, nat_tests, c.in_default))
