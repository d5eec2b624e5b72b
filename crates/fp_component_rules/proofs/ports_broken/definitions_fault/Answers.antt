use Rattle.std.proofs.Common.{◌≡◌, List, Some, length, slice_get, refl, subst}
use Rattle.std.proofs.lemmas.Option.{slice_get_read}
use Rattle.fp_base.specs.Least.{IsLeast}
use Rattle.fp_base.proofs.Elements.{least_first_none, least_next, least_of_all}
use Rattle.fp_written_parts.specs.declared.port.WrittenFormal.{WrittenFormal}
use Rattle.fp_component_rules.specs.PortBroken.{BrokenPortDef, RepeatedFormals}
use Rattle.fp_component_rules.proofs.ports_broken.definitions_fault.Goals as goal

pub loop-definition-init : goal.loop-definition-init
loop-definition-init c = least_first_none BrokenPortDef c.args.definitions.now

pub loop-definition-preserved : goal.loop-definition-preserved
loop-definition-preserved c =
    let all = c.args.definitions.now in
    let n = c.loop-definition.definition-index in
    let x = c.definition-item.result in
    let at : slice_get all n ≡ Some x = slice_get_read all (length all) n x refl c.loop-definition-test.true c.definition-item.is in
    least_next BrokenPortDef all n x c.loop-definition.first c.lesser-first.result c.in_ok-fault.fault at c.lesser-first.ensures
    (subst (λ (fs : List WrittenFormal). IsLeast (RepeatedFormals fs) c.in_ok-fault.fault) c.as_slice.ensures c.in_ok-fault.ensures) c.loop-definition.invariant

pub returns : goal.returns
returns c = least_of_all BrokenPortDef c.args.definitions.now c.loop-definition.definition-index c.loop-definition.first c.loop-definition-test.false c.loop-definition.invariant
