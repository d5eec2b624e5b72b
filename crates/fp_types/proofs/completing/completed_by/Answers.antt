use Rattle.std.proofs.Common.{length, refl, arith}
use Rattle.std.proofs.lemmas.Option.{slice_get_read}
use Rattle.fp_types.proofs.Complete.{completes_first, completes_next, completes_last, completes_none, member_some}
use Rattle.fp_types.proofs.completing.completed_by.Goals as goal

pub loop-field-init : goal.loop-field-init
loop-field-init c ws sound = completes_first ws c.args.rest c.args.given.now c.new-row.result c.new-row.ensures

pub loop-field-preserved : goal.loop-field-preserved
loop-field-preserved c ws sound =
    let f = c.field-item.result in
    completes_next ws c.args.rest c.args.given.now c.args.fields.now c.loop-field.field-index f c.in_ok-name-in-Some.name c.in-Some.value c.loop-field.row c.push.new.self c.loop-field-test.true c.field-item.is
    (c.loop-field.invariant ws sound) c.in_ok-name-in-Some.ensures (member_some ws _ c.args.rest c.args.given.now f c.in_ok-next.next c.in-Some.value c.in-Some.is (c.in_ok-next.ensures ws sound)) c.in_ok-push-in-Some.ensures.ok

pub returns-in-None : goal.returns-in-None
returns-in-None c ws sound =
    let fields = c.args.fields.now in
    let i = c.loop-field.field-index in
    let f = c.field-item.result in
    completes_none ws c.args.defaults.now c.args.rest c.args.given.now fields i f c.in_ok-next.next (slice_get_read fields (length fields) i f refl c.loop-field-test.true c.field-item.is) c.in-None.is (c.in_ok-next.ensures ws sound)

pub returns : goal.returns
returns c ws sound = completes_last ws c.args.rest c.args.given.now c.args.fields.now c.loop-field.field-index c.loop-field.row (omega arith) (c.loop-field.invariant ws sound)
