use Rattle.std.proofs.Common.{length, ◌+◌}
use Rattle.fp_machines.specs.Scopes.{outward}
use Rattle.fp_machines.proofs.Found.{none_then, some_then}
use Rattle.fp_machines.proofs.scopes.begun.Goals as goal

pub returns-in-None : goal.returns-in-None
returns-in-None c =
    λ es a. none_then (outward c.args.items.now (length c.args.items.now + 1) c.args.parent) _ _ (c.number.ensures es c.args.items.now a) c.in-None.is

pub returns-in-Some : goal.returns-in-Some
returns-in-Some c =
    λ es a.
    some_then (outward c.args.items.now (length c.args.items.now + 1) c.args.parent) _ _ _ _ (c.number.ensures es c.args.items.now a) c.in-Some.is
    (c.outward.ensures es a)
