use Rattle.std.proofs.Common.{◌∷◌, sym, ◌∙◌}
use Rattle.fp_names.proofs.Faults.{asked}
use Rattle.fp_names.proofs.names.Names.find.Goals as goal

pub returns-in-Some : goal.returns-in-Some
returns-in-Some c =
    asked c.args.self.now c.find_behind.result c.args.group c.args.scope.now c.as_slice-in-Some.result.now c.args.name.now (c.in-Some.first.now ∷ c.in-Some.others.now)
    c.as_slice-in-Some.ensures (sym c.in-Some.ensures.cases.0 ∙ c.as_slice.ensures) c.find_behind.ensures
