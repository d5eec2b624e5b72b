use Rattle.std.proofs.Common.{refl}
use Rattle.fp_components.proofs.ports.port_of.Goals as goal

pub returns : goal.returns
returns c whole = record {
  name = c.in_ok-name.ensures;
  role = c.role_of.ensures whole.queue;
  size = c.size_of.ensures whole.size;
  of = refl;
  formals = c.in_ok-formals.ensures whole.of;
}
