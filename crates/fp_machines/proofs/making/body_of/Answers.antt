use Rattle.std.proofs.Common.{◌∙◌}
use Rattle.fp_machines.proofs.Vertices.{same_vertices}
use Rattle.fp_machines.proofs.making.body_of.Goals as goal

pub returns-clause-vertices : goal.returns-clause-vertices
returns-clause-vertices c =
    let es = c.args.elements.now in
    c.in_ok-vertices.ensures es c.in_ok-names.ensures.known ∙ same_vertices es _ _ (c.in_ok-gathered.ensures es c.in_ok-names.ensures.known)
