use Rattle.std.proofs.Common.{◌≡◌, [], ◌∷◌, length, flat_map, slice_get, Some, refl}
use Rattle.std.proofs.lemmas.Option.{slice_get_read}
use Rattle.fp_base.proofs.Lists.{each_of_any}
use Rattle.fp_tree.specs.declared.machine.BehaviorElement.{BehaviorElement}
use Rattle.fp_meaning.specs.Layout.{element_items}
use Rattle.fp_type_forms.proofs.Taking.{taken_as}
use Rattle.fp_component_forms.proofs.Lists.{EachIs, all_read, each_joined, next_read, none_read}
use Rattle.fp_source_parts.specs.DeclaredElements.{Declares}
use Rattle.fp_source_parts.proofs.kinds.kinds_taken.Goals as goal

pub loop-element-init : goal.loop-element-init
loop-element-init c source scope =
    none_read (EachIs (Declares source scope)) tt (each_joined (Declares source scope)) (λ (e : BehaviorElement). Unit {0}) (element_items scope) source c.args.marks.now c.args.resolutions.now c.args.elements.now c.args.next.now c.args.next.now c.in_ok-kinds.kinds refl c.in_ok-kinds.ensures

pub loop-element-preserved : goal.loop-element-preserved
loop-element-preserved c source scope =
    let all = c.args.elements.now in
    let n = c.loop-element.element-index in
    let x = c.element-item.result in
    let at : slice_get all n ≡ Some x = slice_get_read all (length all) n x refl c.loop-element-test.true c.element-item.is in
    next_read (EachIs (Declares source scope)) tt (each_joined (Declares source scope)) (λ (e : BehaviorElement). Unit {0}) (element_items scope) source c.args.marks.now c.args.resolutions.now c.args.elements.now n x c.args.next.now c.loop-element.next _ c.loop-element.kinds _ (c.form_taken-one.result ∷ []) at c.in_ok-push.ensures.ok (c.loop-element.invariant source scope)
    (taken_as source c.args.marks.now c.args.resolutions.now (element_items scope x) c.loop-element.next _ (λ h s. (h, tt)) (c.form_taken-one.ensures source scope))

pub returns : goal.returns
returns c source scope =
    taken_as source c.args.marks.now c.args.resolutions.now (flat_map (element_items scope) c.args.elements.now) c.args.next.now c.loop-element.next (λ h. h (each_of_any (λ (e : BehaviorElement). Unit {0}) (λ e. tt) c.args.elements.now))
    (all_read (EachIs (Declares source scope)) tt (each_joined (Declares source scope)) (λ (e : BehaviorElement). Unit {0}) (element_items scope) source c.args.marks.now c.args.resolutions.now c.args.elements.now c.loop-element.element-index c.args.next.now c.loop-element.next c.loop-element.kinds c.loop-element-test.false (c.loop-element.invariant source scope))
