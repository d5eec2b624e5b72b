use Rattle.std.proofs.Common.{◌∙◌, ◌≡◌, ◌+◌, ℕ, length, sym, arith, true, false, Some, None, is_some}
use Rattle.fp_base.proofs.Options.{some_of}
use Rattle.fp_machines.proofs.Going.{absent, is_found, at_last, is_nowhere, goes_out}
use Rattle.fp_machines.proofs.scopes.outward.Goals as goal

pub returns-then-is_some : goal.returns-then-is_some
returns-then-is_some c = λ es a.
    let some = some_of c.child-here.result (sym c.is_some.ensures ∙ c.if-is_some.true) in
    is_found c.args.items.now c.args.name (length c.args.items.now + 1) c.loop-round.round c.loop-round.scope c.child-here.result some.0 (omega (arith, c.loop-round-test.true))
    (c.child-here.ensures es c.args.items.now a) some.1
    ∙ c.loop-round.invariant es a

pub returns-in-None : goal.returns-in-None
returns-in-None c = λ es a.
    let none : c.child-here.result ≡ None = absent c.child-here.result (sym c.is_some.ensures ∙ c.if-is_some.false) in
    is_nowhere c.args.items.now c.args.name (length c.args.items.now + 1) c.loop-round.round c.loop-round.scope c.child-here.result (omega (arith, c.loop-round-test.true))
    (c.child-here.ensures es c.args.items.now a) none c.in-None.is
    ∙ c.loop-round.invariant es a

pub loop-round-preserved : goal.loop-round-preserved
loop-round-preserved c = λ es a.
    let none : c.child-here.result ≡ None = absent c.child-here.result (sym c.is_some.ensures ∙ c.if-is_some.false) in
    goes_out c.args.items.now c.args.name (length c.args.items.now + 1) c.loop-round.round c.loop-round.scope c.child-here.result c.in-Some.state c.parent_of-scope.result
    (omega (arith, c.loop-round-test.true)) (c.child-here.ensures es c.args.items.now a) none c.in-Some.is c.parent_of-scope.ensures
    ∙ c.loop-round.invariant es a

pub returns : goal.returns
returns c = λ es a.
    at_last c.args.items.now c.args.name (length c.args.items.now + 1) c.loop-round.round c.loop-round.scope (omega (arith, c.loop-round-test.false))
    ∙ c.loop-round.invariant es a
