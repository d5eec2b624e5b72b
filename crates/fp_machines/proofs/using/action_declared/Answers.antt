use Rattle.fp_machines.specs.Scopes.{action_meant}
use Rattle.fp_machines.proofs.Found.{none_then, some_then}
use Rattle.fp_machines.proofs.using.action_declared.Goals as goal

pub returns-in-None : goal.returns-in-None
returns-in-None c = λ es items a. none_then (action_meant items) _ _ (c.number.ensures es items a) c.in-None.is

pub returns-in-Some : goal.returns-in-Some
returns-in-Some c = λ es items a. some_then (action_meant items) _ _ _ _ (c.number.ensures es items a) c.in-Some.is (c.action.ensures es items a)
