use Rattle.std.proofs.Common.{◌≡◌, ℕ, List, [], ◌∷◌, ◌++◌, Some, length, slice_get, refl, ap, ◌∙◌, arith}
use Rattle.std.proofs.lemmas.Option.{slice_get_read}
use Rattle.fp_scenario_check.proofs.AtAll.{item_refused}
use Rattle.fp_scenario_check.proofs.AtEach.{handles_none, handles_more, handles_whole}
use Rattle.fp_scenario_check.proofs.handlers.all_handlers_of.Goals as goal

pub loop-at-init : goal.loop-at-init
loop-at-init c = handles_none c.args.tables.now c.args.owned.now c.args.texts.now c.new-handlers.result c.new-counts.result c.new-handlers.ensures c.new-counts.ensures

pub loop-at-preserved : goal.loop-at-preserved
loop-at-preserved c =
    let x = c.index-texts-at.result in
    handles_more c.args.tables.now c.args.owned.now c.args.texts.now c.loop-at.at x x c.loop-at.handlers c.in-Ok.more c.append.new.self c.loop-at.counts c.push.new.self (omega arith) c.index-texts-at.is c.in-Ok.ensures.planned c.in-Ok.ensures.known
    c.in_ok-append-in-Ok.ensures.ok (c.in_ok-push-in-Ok.ensures.ok ∙ ap (λ (n : ℕ). c.loop-at.counts ++ n ∷ []) c.len.ensures) c.loop-at.invariant

pub returns-in-Err-clause-broken : goal.returns-in-Err-clause-broken
returns-in-Err-clause-broken c =
    let texts = c.args.texts.now in
    let n = c.loop-at.at in
    let x = c.index-texts-at.result in
    let here : slice_get texts n ≡ Some x = slice_get_read texts (length texts) n x refl (omega arith) c.index-texts-at.is in
    item_refused c.args.tables.now c.args.owned.now texts n x c.in-Err.stop c.stop_under_position.result here c.stop_under_position.ensures c.in-Err.ensures.broken

pub returns-clause-planned : goal.returns-clause-planned
returns-clause-planned c = λ scenario owns.
    (handles_whole c.args.tables.now c.args.owned.now c.args.texts.now c.loop-at.at c.loop-at.handlers c.loop-at.counts (omega arith) c.loop-at.invariant scenario owns).0

pub returns-clause-counted : goal.returns-clause-counted
returns-clause-counted c = λ scenario owns.
    (handles_whole c.args.tables.now c.args.owned.now c.args.texts.now c.loop-at.at c.loop-at.handlers c.loop-at.counts (omega arith) c.loop-at.invariant scenario owns).1

pub returns-clause-known : goal.returns-clause-known
returns-clause-known c = λ scenario owns.
    (handles_whole c.args.tables.now c.args.owned.now c.args.texts.now c.loop-at.at c.loop-at.handlers c.loop-at.counts (omega arith) c.loop-at.invariant scenario owns).2
