use Rattle.std.proofs.Common.{sym, subst}
use Rattle.fp_type_formats.specs.declared.reading.Mark.{Mark}
use Rattle.fp_type_formats.specs.Sorted.{IsNext}
use Rattle.std.proofs.Common.{◌∷◌}
use Rattle.fp_type_formats.proofs.Progress.{next_field, opening_lone}
use Rattle.fp_type_formats.proofs.reading.field_in.Goals as goal

pub returns-in-None : goal.returns-in-None
returns-in-None c = opening_lone c.args.behind.now c.requires c.in-None.ensures

pub returns-in-Some : goal.returns-in-Some
returns-in-Some c =
    subst (λ (m : Mark). IsNext (123 ∷ c.args.behind.now) m c.in-Some.rest.now) (sym c.field_mark.ensures)
    (next_field c.args.behind.now c.in-Some.inside.now c.in-Some.rest.now c.in-Some.ensures.0 c.in-Some.ensures.1)
