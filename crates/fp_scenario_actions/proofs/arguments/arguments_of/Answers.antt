use Rattle.std.proofs.Common.{refl, sym, ◌∙◌, ap, arith}
use Rattle.serde_json.specs.View.{view}
use Rattle.fp_tables.specs.Bound.{scope_of}
use Rattle.fp_scenario_actions.proofs.Arguing.{other_length, first_are, next_are, last_are, none_are, some_made, none_made}
use Rattle.fp_scenario_actions.proofs.arguments.arguments_of.Goals as goal

pub returns-then-kinds-values : goal.returns-then-kinds-values
returns-then-kinds-values c = other_length c.args.types.now (scope_of c.args.bound.now) c.args.kinds.now c.args.values.now c.if-kinds-values.true

pub loop-at-init : goal.loop-at-init
loop-at-init c = first_are c.args.types.now (scope_of c.args.bound.now) c.new-row.result c.new-row.ensures

pub loop-at-preserved : goal.loop-at-preserved
loop-at-preserved c =
    let types = c.args.types.now in
    let scope = scope_of c.args.bound.now in
    let x = c.index-values-at.result in
    next_are types scope c.args.kinds.now c.args.values.now c.loop-at.at c.kind_at-kind.result x c.in-Some.argument c.loop-at.row c.push.new.self (omega arith) c.if-kinds-values.false
    c.kind_at-kind.ensures c.index-values-at.is c.loop-at.invariant (some_made types scope c.kind_at-kind.result (view x) c.in_ok-next.next c.in-Some.argument c.in-Some.is c.in_ok-next.ensures) c.in_ok-push-in-Some.ensures.ok

pub returns-in-None : goal.returns-in-None
returns-in-None c =
    let types = c.args.types.now in
    let scope = scope_of c.args.bound.now in
    let x = c.index-values-at.result in
    none_are types scope c.args.kinds.now c.args.values.now c.loop-at.at c.kind_at-kind.result x (omega arith) c.if-kinds-values.false c.kind_at-kind.ensures c.index-values-at.is
    (none_made types scope c.kind_at-kind.result (view x) c.in_ok-next.next c.in-None.is c.in_ok-next.ensures)

pub returns : goal.returns
returns c = last_are c.args.types.now (scope_of c.args.bound.now) c.args.kinds.now c.args.values.now c.loop-at.at c.loop-at.row (omega arith) c.if-kinds-values.false c.loop-at.invariant
