use Rattle.fp_base.proofs.KeySets.{name_added}
use Rattle.fp_tables.proofs.seen.see.Goals as goal

pub returns-clause-seen : goal.returns-clause-seen
returns-clause-seen c = name_added c.args.seen.now c.insert.new.self c.args.name c.in_ok-added.ensures.keys
