use Rattle.std.proofs.Common.{refl}
use Rattle.fp_type_sizes.proofs.Counted.{no_form_of}
use Rattle.fp_types.proofs.Causes.{default_formed, default_unformed}
use Rattle.fp_types.proofs.Through.{own_enough}
use Rattle.fp_types.proofs.misfits.bad_default_of.Goals as goal

pub returns-in-Some : goal.returns-in-Some
returns-in-Some c =
    let types = c.args.types.now in
    let i = c.args.number in
    default_formed types i c.args.place c.args.written.now.default c.in-Some.form c.own_misfit.result (record { written = c.args.written.now; here = c.requires.here; own = refl })
    (record { written = c.args.written.now; here = c.requires.here; form = c.in-Some.is }) c.requires.sized
    (c.own_misfit.ensures (own_enough types i c.in-Some.form (record { written = c.args.written.now; here = c.requires.here; form = c.in-Some.is }) c.requires.sized))

pub returns-in-None : goal.returns-in-None
returns-in-None c = default_unformed c.args.types.now c.args.number c.args.place (no_form_of c.args.types.now c.args.number c.args.written.now c.requires.here c.in-None.is)
