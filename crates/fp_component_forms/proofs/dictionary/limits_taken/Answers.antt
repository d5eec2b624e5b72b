use Rattle.std.proofs.Common.{◌≡◌, [], ◌∷◌, length, flat_map, slice_get, Some, refl}
use Rattle.std.proofs.lemmas.Option.{slice_get_read}
use Rattle.fp_base.proofs.Lists.{each_of_any}
use Rattle.fp_tree.specs.declared.dictionary.Limit.{Limit}
use Rattle.fp_meaning.specs.Layout.{limit_items}
use Rattle.fp_type_forms.proofs.Taking.{taken_as}
use Rattle.fp_component_forms.specs.Written.{LimitIs}
use Rattle.fp_component_forms.proofs.Lists.{EachIs, all_read, each_joined, next_read, none_read}
use Rattle.fp_component_forms.proofs.dictionary.limits_taken.Goals as goal

pub loop-limit-init : goal.loop-limit-init
loop-limit-init c source scope =
    none_read (EachIs (LimitIs source scope c.args.high)) tt (each_joined (LimitIs source scope c.args.high)) (λ (x : Limit). Unit {0}) (limit_items scope) source c.args.marks.now c.args.resolutions.now c.args.limits.now c.args.next.now c.args.next.now c.new-row.result refl c.new-row.ensures

pub loop-limit-preserved : goal.loop-limit-preserved
loop-limit-preserved c source scope =
    let all = c.args.limits.now in
    let n = c.loop-limit.limit-index in
    let x = c.limit-item.result in
    let at : slice_get all n ≡ Some x = slice_get_read all (length all) n x refl c.loop-limit-test.true c.limit-item.is in
    next_read (EachIs (LimitIs source scope c.args.high)) tt (each_joined (LimitIs source scope c.args.high)) (λ (x : Limit). Unit {0}) (limit_items scope) source c.args.marks.now c.args.resolutions.now c.args.limits.now n x c.args.next.now c.loop-limit.next _ c.loop-limit.row c.in_ok-row.row (c.limit_taken-one.result ∷ []) at c.in_ok-row.ensures (c.loop-limit.invariant source scope)
    (taken_as source c.args.marks.now c.args.resolutions.now (limit_items scope x) c.loop-limit.next _ (λ h s. (h, tt)) (c.limit_taken-one.ensures source scope))

pub returns : goal.returns
returns c source scope =
    taken_as source c.args.marks.now c.args.resolutions.now (flat_map (limit_items scope) c.args.limits.now) c.args.next.now c.loop-limit.next (λ h. h (each_of_any (λ (x : Limit). Unit {0}) (λ x. tt) c.args.limits.now))
    (all_read (EachIs (LimitIs source scope c.args.high)) tt (each_joined (LimitIs source scope c.args.high)) (λ (x : Limit). Unit {0}) (limit_items scope) source c.args.marks.now c.args.resolutions.now c.args.limits.now c.loop-limit.limit-index c.args.next.now c.loop-limit.next c.loop-limit.row c.loop-limit-test.false (c.loop-limit.invariant source scope))
