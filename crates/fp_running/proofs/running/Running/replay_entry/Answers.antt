use Rattle.fp_running.proofs.Replaying.{known_actor}
use Rattle.fp_running.proofs.Steps.{replays}
use Rattle.fp_running.proofs.running.Running.replay_entry.Goals as goal

pub turn-requires : goal.turn-requires
turn-requires c = known_actor c.fitting_entries.ensures c.args.self.now.tables c.args.self.now.program c.args.self.now.entries c.args.entry.now c.requires

pub returns-clause-replayed : goal.returns-clause-replayed
returns-clause-replayed c = replays c.outcomes.ensures c.args.self.now c.turn.new.self c.args.entry.now c.in_ok-turn.field-0 c.in_ok-turn.ensures.turned c.requires
