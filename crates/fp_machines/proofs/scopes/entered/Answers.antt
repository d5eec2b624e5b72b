use Rattle.std.specs.Prelude.{Some}
use Rattle.fp_machines.specs.Scopes.{child}
use Rattle.fp_machines.proofs.Found.{none_then, some_then}
use Rattle.fp_machines.proofs.scopes.entered.Goals as goal

pub returns-in-None : goal.returns-in-None
returns-in-None c = λ es items a. none_then (child items (Some c.args.state)) _ _ (c.number.ensures es items a) c.in-None.is

pub returns-in-Some : goal.returns-in-Some
returns-in-Some c = λ es items a. some_then (child items (Some c.args.state)) _ _ _ _ (c.number.ensures es items a) c.in-Some.is (c.child.ensures es items a)
