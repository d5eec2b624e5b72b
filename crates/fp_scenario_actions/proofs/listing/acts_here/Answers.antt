use Rattle.std.proofs.Common.{refl, sym, ◌∙◌, ap, arith}
use Rattle.fp_tables.specs.Bound.{scope_of}
use Rattle.fp_scenario_actions.proofs.Listed.{ends, completes_more, reaches_more, list_halted, completed}
use Rattle.fp_scenario_actions.proofs.listing.acts_here.Goals as goal

pub returns-in-Err-clause-broken : goal.returns-in-Err-clause-broken
returns-in-Err-clause-broken c =
    list_halted c.args.tables.now c.args.instance c.args.component.now c.args.place (scope_of c.args.bound) c.args.texts.now (scope_of c.loop-at.scope) c.loop-at.at c.index-texts-at.result _ c.in-Err.halt c.at_position.result
    (omega arith) c.index-texts-at.is (ends c.args.texts.now c.loop-at.at (omega arith)) c.at_position.ensures c.in-Err.ensures.broken c.loop-at.invariant.1

pub loop-at-preserved : goal.loop-at-preserved
loop-at-preserved c =
    let a = c.index-texts-at.result in
    let n = c.loop-at.at in (
      completes_more c.args.tables.now c.args.instance c.args.component.now c.args.place (scope_of c.args.bound) c.args.texts.now (scope_of c.loop-at.scope) (scope_of c.bind_answer.new.bound) n a c.in-Ok.act c.loop-at.row c.push.new.self _
          (omega arith) c.index-texts-at.is (ends c.args.texts.now n (omega arith)) c.in_ok-bind_answer-in-Ok.ensures c.in_ok-push-in-Ok.ensures.ok c.in-Ok.ensures.made c.loop-at.invariant.0,
      reaches_more c.args.tables.now c.args.instance c.args.component.now c.args.place (scope_of c.args.bound) c.args.texts.now (scope_of c.loop-at.scope) (scope_of c.bind_answer.new.bound) n a
          (omega arith) c.index-texts-at.is c.in_ok-bind_answer-in-Ok.ensures c.loop-at.invariant.1,
    )

pub returns-clause-made : goal.returns-clause-made
returns-clause-made c =
    completed c.args.tables.now c.args.instance c.args.component.now c.args.place (scope_of c.args.bound) c.args.texts.now (scope_of c.loop-at.scope) c.loop-at.at c.loop-at.row (omega arith) c.loop-at.invariant.0
