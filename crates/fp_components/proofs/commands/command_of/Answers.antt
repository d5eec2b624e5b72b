use Rattle.std.proofs.Common.{◌∙◌, ap, refl}
use Rattle.fp_components.specs.Resolved.{formals_of}
use Rattle.fp_components.proofs.commands.command_of.Goals as goal

pub returns : goal.returns
returns c listed k is whole = record {
  opcode = is;
  is = record {
    name = c.in_ok-name.ensures;
    part = refl;
    way = c.way_of.ensures whole;
    formals = c.in_ok-formals.ensures ∙ ap formals_of c.as_slice.ensures;
    note = c.in_ok-note.ensures;
  };
}
