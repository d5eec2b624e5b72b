use Rattle.fp_tables.specs.declared.kind.Form.TheVariants as form
use Rattle.fp_type_forms.proofs.Only.{only_this}
use Rattle.fp_type_forms.proofs.wholes.abstract_written.Goals as goal

pub returns : goal.returns
returns c source h = record { name = c.in_ok-name.ensures; form = only_this form.Abstract; default = tt; note = c.in_ok-note.ensures }
