use Rattle.std.proofs.Common.{refl}
use Rattle.fp_tables.proofs.waiting.priorities.Goals as goal

pub returns : goal.returns
returns c =
    rw (c.in_ok-push_machines.ensures, c.in_ok-push_commands.ensures, c.in_ok-push_ports.ensures, c.new-found.ensures.items, c.as_slice.ensures, (c.as_slice-2).ensures, (c.as_slice-3).ensures) refl
