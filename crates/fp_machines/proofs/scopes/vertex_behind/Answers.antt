use Rattle.fp_machines.specs.Scopes.{inward}
use Rattle.fp_machines.proofs.Found.{none_then, some_then}
use Rattle.fp_machines.proofs.scopes.vertex_behind.Goals as goal

pub returns-in-None : goal.returns-in-None
returns-in-None c = λ es a. none_then (inward es c.args.items.now c.args.more.now) _ _ (c.begun.ensures es a) c.in-None.is

pub returns-in-Some : goal.returns-in-Some
returns-in-Some c =
    λ es a. some_then (inward es c.args.items.now c.args.more.now) _ _ _ _ (c.begun.ensures es a) c.in-Some.is (c.inward.ensures es c.args.items.now a)
