use Rattle.std.proofs.Common.{Bool, ap, subst, ◌∙◌}
use Rattle.std.specs.BTreeSet.{contains}
use Rattle.std.proofs.lemmas.Option.{slice_get-get_or}
use Rattle.fp_base.specs.Least.{InSome, IsLeast}
use Rattle.fp_tables.specs.Types.{is_integer_kind}
use Rattle.fp_dictdefs.specs.Tested.{long_cmp}
use Rattle.fp_dictdefs.proofs.Pairs.{none_noted}
use Rattle.fp_dictdefs.proofs.Sides.{LimitAt, limits_none, limits_step, limits_all}
use Rattle.fp_dictdefs.proofs.limits.limit_fault.Goals as goal

pub loop-limit-init : goal.loop-limit-init
loop-limit-init c =
    limits_none c.is_integer_kind-fits.result c.args.limits.now (contains long_cmp c.new-seen.result) (none_noted c.new-seen.result c.new-seen.ensures.empty)

pub loop-limit-preserved : goal.loop-limit-preserved
loop-limit-preserved c =
    let all = c.args.limits.now in
    let n = c.loop-limit.limit-index in
    limits_step c.is_integer_kind-fits.result all n _ c.loop-limit.first c.lesser-first.result c.fault_at-fault.result (contains long_cmp c.loop-limit.seen) (contains long_cmp c.note.new.noted)
    c.in_ok-again.again c.limit_key.result (slice_get-get_or all n _ c.loop-limit-test.true) c.lesser-first.ensures c.fault_at-fault.ensures c.in_ok-again.ensures.again c.limit_key.ensures
    c.in_ok-again.ensures.notes c.loop-limit.invariant

pub returns : goal.returns
returns c =
    let all = c.args.limits.now in
    subst (λ (fits : Bool). IsLeast (InSome (LimitAt fits all) all) c.loop-limit.first) (c.is_integer_kind-fits.ensures ∙ ap is_integer_kind c.target.ensures)
    (limits_all c.is_integer_kind-fits.result all c.loop-limit.limit-index c.loop-limit.first (contains long_cmp c.loop-limit.seen) c.loop-limit-test.false c.loop-limit.invariant)
