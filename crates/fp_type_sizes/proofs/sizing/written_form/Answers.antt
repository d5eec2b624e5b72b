use Rattle.fp_type_sizes.proofs.Counted.{from_form, no_form, no_form_of}
use Rattle.fp_type_sizes.proofs.sizing.written_form.Goals as goal

pub returns-in-Some : goal.returns-in-Some
returns-in-Some c ws here sound =
    from_form ws c.args.table.now c.args.number c.in-Some.form c.form_extent.result (record { written = c.args.written.now; here = here; form = c.in-Some.is }) sound c.form_extent.ensures

pub returns-in-None : goal.returns-in-None
returns-in-None c ws here sound = no_form ws c.args.table.now c.args.number (no_form_of ws c.args.number c.args.written.now here c.in-None.is)
