use Rattle.fp_scenario_check.proofs.Keyed.{key_seen}
use Rattle.fp_scenario_check.proofs.repeats.see.Goals as goal

pub returns-clause-seen : goal.returns-clause-seen
returns-clause-seen c = key_seen c.args.seen.now c.insert.new.self c.args.key.now c.in_ok-added.ensures.keys
