use Rattle.std.proofs.Common.{◌≡◌, List, Some, length, slice_get, refl, subst}
use Rattle.std.proofs.lemmas.Option.{slice_get_read}
use Rattle.fp_base.specs.Least.{IsLeast}
use Rattle.fp_base.proofs.Elements.{least_first_none, least_next, least_of_all}
use Rattle.fp_written_parts.specs.declared.member.WrittenMember.{WrittenMember}
use Rattle.fp_component_rules.specs.PortBroken.{BrokenMembers, InterfaceBroken}
use Rattle.fp_component_rules.proofs.ports_broken.interfaces_fault.Goals as goal

pub loop-interface-init : goal.loop-interface-init
loop-interface-init c = least_first_none (InterfaceBroken c.args.definitions.now) c.args.interfaces.now

pub loop-interface-preserved : goal.loop-interface-preserved
loop-interface-preserved c =
    let definitions = c.args.definitions.now in
    let all = c.args.interfaces.now in
    let n = c.loop-interface.interface-index in
    let x = c.interface-item.result in
    let at : slice_get all n ≡ Some x = slice_get_read all (length all) n x refl c.loop-interface-test.true c.interface-item.is in
    least_next (InterfaceBroken definitions) all n x c.loop-interface.first c.lesser-first.result c.in_ok-fault.fault at c.lesser-first.ensures
    (subst (λ (ms : List WrittenMember). IsLeast (BrokenMembers definitions ms) c.in_ok-fault.fault) c.as_slice.ensures c.in_ok-fault.ensures) c.loop-interface.invariant

pub returns : goal.returns
returns c = least_of_all (InterfaceBroken c.args.definitions.now) c.args.interfaces.now c.loop-interface.interface-index c.loop-interface.first c.loop-interface-test.false c.loop-interface.invariant
