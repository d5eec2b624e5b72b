use Rattle.std.proofs.Common.{◌≡◌, length, flat_map, slice_get, Some, refl}
use Rattle.std.proofs.lemmas.Option.{slice_get_read}
use Rattle.std.specs.Option.{option_to_list}
use Rattle.fp_base.proofs.Lists.{each_of_any}
use Rattle.fp_tree.specs.declared.component.InterfacePart.{InterfacePart}
use Rattle.fp_meaning.specs.Layout.{interface_part_items}
use Rattle.fp_type_forms.proofs.Taking.{taken_as}
use Rattle.fp_component_forms.specs.Written.{MemberIs, part_of}
use Rattle.fp_component_forms.proofs.Readers.{interface_member_is}
use Rattle.fp_component_forms.proofs.Lists.{EachIs, all_read, each_joined, next_read, none_read}
use Rattle.fp_component_forms.proofs.interfaces.interface_members.Goals as goal

pub loop-part-init : goal.loop-part-init
loop-part-init c source scope ready =
    none_read (EachIs (λ (p : InterfacePart). MemberIs source scope (part_of p))) tt (each_joined (λ (p : InterfacePart). MemberIs source scope (part_of p))) (λ (p : InterfacePart). Unit {0}) (interface_part_items scope) source c.args.marks.now c.args.resolutions.now c.args.parts.now c.args.next.now c.args.next.now c.new-row.result refl c.new-row.ensures

pub loop-part-preserved : goal.loop-part-preserved
loop-part-preserved c source scope ready =
    let all = c.args.parts.now in
    let n = c.loop-part.part-index in
    let x = c.part-item.result in
    let at : slice_get all n ≡ Some x = slice_get_read all (length all) n x refl c.loop-part-test.true c.part-item.is in
    next_read (EachIs (λ (p : InterfacePart). MemberIs source scope (part_of p))) tt (each_joined (λ (p : InterfacePart). MemberIs source scope (part_of p))) (λ (p : InterfacePart). Unit {0}) (interface_part_items scope) source c.args.marks.now c.args.resolutions.now c.args.parts.now n x c.args.next.now c.loop-part.next _ c.loop-part.row c.in_ok-row.row (option_to_list c.in_ok-one.one) at c.in_ok-row.ensures (c.loop-part.invariant source scope ready)
    (taken_as source c.args.marks.now c.args.resolutions.now (interface_part_items scope x) c.loop-part.next _ (λ h s. interface_member_is source scope x (option_to_list c.in_ok-one.one) h) (c.in_ok-one.ensures source scope ready))

pub returns : goal.returns
returns c source scope ready =
    taken_as source c.args.marks.now c.args.resolutions.now (flat_map (interface_part_items scope) c.args.parts.now) c.args.next.now c.loop-part.next (λ h. h (each_of_any (λ (p : InterfacePart). Unit {0}) (λ p. tt) c.args.parts.now))
    (all_read (EachIs (λ (p : InterfacePart). MemberIs source scope (part_of p))) tt (each_joined (λ (p : InterfacePart). MemberIs source scope (part_of p))) (λ (p : InterfacePart). Unit {0}) (interface_part_items scope) source c.args.marks.now c.args.resolutions.now c.args.parts.now c.loop-part.part-index c.args.next.now c.loop-part.next c.loop-part.row c.loop-part-test.false (c.loop-part.invariant source scope ready))
