use Rattle.std.proofs.Common.{sym}
use Rattle.fp_scenario_actions.proofs.Halting.{actions_short}
use Rattle.fp_scenario_actions.proofs.spots.action_at.Goals as goal

pub name_of-requires : goal.name_of-requires
name_of-requires c = rw c.as_slice.ensures (actions_short c.args.tables.now c.args.component.now c.args.running c.in-Some.machine.now c.requires (sym c.in-Some.ensures))
