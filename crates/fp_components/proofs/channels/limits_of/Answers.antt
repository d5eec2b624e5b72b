use Rattle.std.proofs.lemmas.Option.{slice_get-get_or}
use Rattle.fp_components.specs.Resolved.{IsLimit}
use Rattle.fp_components.proofs.Each.{each_all, each_next, each_none}
use Rattle.fp_components.proofs.channels.limits_of.Goals as goal

pub loop-limit-init : goal.loop-limit-init
loop-limit-init c whole = each_none (λ k. IsLimit) c.new-row.result c.new-row.ensures

pub loop-limit-preserved : goal.loop-limit-preserved
loop-limit-preserved c whole =
    let all = c.args.limits.now in
    let n = c.loop-limit.limit-index in
    each_next IsLimit all n _ c.loop-limit.row _ c.limit_of-resolved.result (slice_get-get_or all n _ c.loop-limit-test.true) c.in_ok-push.ensures.ok
    (c.limit_of-resolved.ensures (whole n _ (slice_get-get_or all n _ c.loop-limit-test.true))) (c.loop-limit.invariant whole)

pub returns : goal.returns
returns c whole = each_all (λ k. IsLimit) c.args.limits.now c.loop-limit.limit-index c.loop-limit.row c.loop-limit-test.false (c.loop-limit.invariant whole)
