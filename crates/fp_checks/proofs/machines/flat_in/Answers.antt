use Rattle.std.proofs.Common.{sym}
use Rattle.fp_checks.proofs.machines.flat_in.Goals as goal

pub flatten-requires : goal.flatten-requires
flatten-requires c = c.sound_machines.ensures c.args.model.now 0 _ c.requires (sym c.in-Some.ensures) c.if-machine.false
