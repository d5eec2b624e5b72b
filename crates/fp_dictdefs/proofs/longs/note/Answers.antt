use Rattle.std.specs.BTreeSet.{contains}
use Rattle.std.specs.Ordering.{is_eq}
use Rattle.fp_base.proofs.Bools.{or_noted}
use Rattle.fp_dictdefs.specs.Tested.{long_cmp}
use Rattle.fp_dictdefs.proofs.longs.note.Goals as goal

pub returns-clause-notes : goal.returns-clause-notes
returns-clause-notes c = λ q. or_noted (contains long_cmp c.insert.new.self q) (is_eq (long_cmp c.args.long q)) (contains long_cmp c.args.noted.now q) (c.in_ok-new.ensures.updates.0 q)
