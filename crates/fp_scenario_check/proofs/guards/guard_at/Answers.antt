use Rattle.std.proofs.Common.{sym}
use Rattle.fp_scenario_check.proofs.Guarded.{guards_short}
use Rattle.fp_scenario_check.proofs.guards.guard_at.Goals as goal

pub name_of-requires : goal.name_of-requires
name_of-requires c = rw c.as_slice.ensures (guards_short c.args.tables.now c.args.instance c.args.running c.in-Some.machine.now c.requires (sym c.in-Some.ensures))
