use Rattle.fp_types.specs.Completing.{SufficesForLefts}
use Rattle.fp_types.specs.Converting.{struct}
use Rattle.fp_types.specs.declared.target.Rest.TheVariants.{OfMembers}
use Rattle.fp_types.proofs.Passed.{each_default, at_option}
use Rattle.fp_types.proofs.defaulting.of_each.Goals as goal

pub returns : goal.returns
returns c ws sound =
    let fields = c.args.fields.now in
    at_option ws c.args.table.now (SufficesForLefts ws c.args.table.now OfMembers fields) (struct OfMembers fields) _ _ c.structured.ensures
    (each_default ws c.args.table.now fields c.in_ok-made.made (c.in_ok-made.ensures ws sound))
