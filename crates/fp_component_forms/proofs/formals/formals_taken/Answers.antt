use Rattle.std.proofs.Common.{◌≡◌, [], ◌∷◌, length, flat_map, slice_get, Some, refl}
use Rattle.std.proofs.lemmas.Option.{slice_get_read}
use Rattle.fp_tree.specs.declared.part.Formal.{Formal}
use Rattle.fp_meaning.specs.Layout.{formal_items}
use Rattle.fp_type_forms.proofs.Taking.{taken_as}
use Rattle.fp_component_forms.specs.Written.{FormalIs, HasType}
use Rattle.fp_component_forms.proofs.Lists.{EachIs, all_read, each_joined, each_of_map, next_read, none_read}
use Rattle.fp_component_forms.proofs.formals.formals_taken.Goals as goal

pub loop-formal-init : goal.loop-formal-init
loop-formal-init c source scope =
    none_read (EachIs (FormalIs source scope)) tt (each_joined (FormalIs source scope)) (λ (f : Formal). HasType source scope f.of) (formal_items scope) source c.args.marks.now c.args.resolutions.now c.args.formals.now c.args.next.now c.args.next.now c.new-row.result refl c.new-row.ensures

pub loop-formal-preserved : goal.loop-formal-preserved
loop-formal-preserved c source scope =
    let all = c.args.formals.now in
    let n = c.loop-formal.formal-index in
    let x = c.formal-item.result in
    let at : slice_get all n ≡ Some x = slice_get_read all (length all) n x refl c.loop-formal-test.true c.formal-item.is in
    next_read (EachIs (FormalIs source scope)) tt (each_joined (FormalIs source scope)) (λ (f : Formal). HasType source scope f.of) (formal_items scope) source c.args.marks.now c.args.resolutions.now c.args.formals.now n x c.args.next.now c.loop-formal.next _ c.loop-formal.row c.in_ok-row.row (c.in_ok-one.one ∷ []) at c.in_ok-row.ensures (c.loop-formal.invariant source scope)
    (taken_as source c.args.marks.now c.args.resolutions.now (formal_items scope x) c.loop-formal.next _ (λ h s. (h s, tt)) (c.in_ok-one.ensures source scope))

pub returns : goal.returns
returns c source scope =
    taken_as source c.args.marks.now c.args.resolutions.now (flat_map (formal_items scope) c.args.formals.now) c.args.next.now c.loop-formal.next (λ h has. h (each_of_map (HasType source scope) (λ (f : Formal). f.of) c.args.formals.now has))
    (all_read (EachIs (FormalIs source scope)) tt (each_joined (FormalIs source scope)) (λ (f : Formal). HasType source scope f.of) (formal_items scope) source c.args.marks.now c.args.resolutions.now c.args.formals.now c.loop-formal.formal-index c.args.next.now c.loop-formal.next c.loop-formal.row c.loop-formal-test.false (c.loop-formal.invariant source scope))
