use Rattle.std.proofs.Common.{◌≡◌, List, Some, length, slice_get, refl, subst, sym}
use Rattle.std.proofs.lemmas.Option.{slice_get_read}
use Rattle.fp_base.specs.Least.{IsLeast}
use Rattle.fp_base.proofs.Elements.{least_first_none, least_next, least_of_all}
use Rattle.fp_written_parts.specs.declared.member.WrittenMember.{WrittenMember}
use Rattle.fp_written_parts.specs.Giving.{ImportsWithin}
use Rattle.fp_component_rules.specs.Broken.{InterfaceBroken, RepeatsBroken}
use Rattle.fp_component_rules.proofs.faults.interfaces_fault.Goals as goal

pub loop-interface-init : goal.loop-interface-init
loop-interface-init c gifts within = least_first_none (InterfaceBroken c.args.interfaces.now) c.args.interfaces.now

pub loop-interface-preserved : goal.loop-interface-preserved
loop-interface-preserved c gifts within =
    let all = c.args.interfaces.now in
    let n = c.loop-interface.interface-index in
    let x = c.interface-item.result in
    let at : slice_get all n ≡ Some x = slice_get_read all (length all) n x refl c.loop-interface-test.true c.interface-item.is in
    least_next (InterfaceBroken all) all n x c.loop-interface.first c.lesser-first.result c.in_ok-fault.fault at c.lesser-first.ensures
    (subst (λ (ms : List WrittenMember). IsLeast (RepeatsBroken all ms) c.in_ok-fault.fault) c.as_slice.ensures
    (c.in_ok-fault.ensures all gifts (subst (ImportsWithin all) (sym c.as_slice.ensures) (within n x at))))
    (c.loop-interface.invariant gifts within)

pub returns : goal.returns
returns c gifts within =
    least_of_all (InterfaceBroken c.args.interfaces.now) c.args.interfaces.now c.loop-interface.interface-index c.loop-interface.first c.loop-interface-test.false
    (c.loop-interface.invariant gifts within)
