use Rattle.std.proofs.Common.{◌∙◌, ap}
use Rattle.fp_components.specs.Resolved.{formals_of}
use Rattle.fp_components.proofs.events.event_of.Goals as goal

pub returns : goal.returns
returns c listed k is whole = record {
  name = c.in_ok-name.ensures;
  id = is;
  severity = c.severity_code.ensures;
  formals = c.in_ok-formals.ensures ∙ ap formals_of c.as_slice.ensures;
  format = c.in_ok-format.ensures;
  fields = c.in_ok-fields.ensures whole.format.0 whole.format.1;
  throttle = c.throttle_of.ensures whole.throttle;
  note = c.in_ok-note.ensures;
}
