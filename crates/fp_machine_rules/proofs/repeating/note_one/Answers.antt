use Rattle.std.specs.BTreeSet.{contains}
use Rattle.std.specs.Ordering.{is_eq}
use Rattle.fp_base.proofs.Bools.{or_noted}
use Rattle.fp_machine_rules.specs.Repeated.{key_cmp}
use Rattle.fp_machine_rules.proofs.repeating.note_one.Goals as goal

pub returns-clause-notes : goal.returns-clause-notes
returns-clause-notes c = λ q. or_noted (contains key_cmp c.insert.new.self q) (is_eq (key_cmp c.args.key q)) (contains key_cmp c.args.noted.now q) (c.in_ok-new.ensures.updates.0 q)
