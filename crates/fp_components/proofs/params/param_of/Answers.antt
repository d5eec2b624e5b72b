use Rattle.std.proofs.Common.{refl}
use Rattle.fp_components.proofs.params.param_of.Goals as goal

pub returns : goal.returns
returns c listed k is whole = record {
  name = c.in_ok-name.ensures;
  id = is;
  kind = refl;
  default = c.in_ok-default.ensures whole;
  written = c.is_some.ensures;
  note = c.in_ok-note.ensures;
}
