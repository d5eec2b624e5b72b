use Rattle.std.proofs.Common.{◌≡◌, Some, length, slice_get, refl, arith}
use Rattle.std.proofs.lemmas.Option.{slice_get_read}
use Rattle.fp_scenario_check.specs.Planned.{PlansAnswers}
use Rattle.fp_scenario_check.specs.Faults.{GuardFault}
use Rattle.fp_scenario_check.proofs.Pairing.{beside_more, beside_whole}
use Rattle.fp_scenario_check.proofs.Stopping.{in_item}
use Rattle.fp_scenario_check.proofs.guards.all_answers_of.Goals as goal

pub loop-at-preserved : goal.loop-at-preserved
loop-at-preserved c =
    let x = c.index-texts-at.result in
    beside_more (PlansAnswers c.args.tables.now) c.args.texts.now c.loop-at.at x x c.loop-at.row c.push.new.self c.in-Ok.answers (omega arith) c.index-texts-at.is c.loop-at.invariant c.in-Ok.ensures.planned c.in_ok-push-in-Ok.ensures.ok

pub returns-in-Err-clause-broken : goal.returns-in-Err-clause-broken
returns-in-Err-clause-broken c =
    let texts = c.args.texts.now in
    let n = c.loop-at.at in
    let x = c.index-texts-at.result in
    let here : slice_get texts n ≡ Some x = slice_get_read texts (length texts) n x refl (omega arith) c.index-texts-at.is in
    in_item (GuardFault c.args.tables.now) texts n x c.in-Err.stop c.stop_under_position.result here c.stop_under_position.ensures c.in-Err.ensures.broken

pub returns-clause-planned : goal.returns-clause-planned
returns-clause-planned c = beside_whole (PlansAnswers c.args.tables.now) c.args.texts.now c.loop-at.at c.loop-at.row (omega arith) c.loop-at.invariant
