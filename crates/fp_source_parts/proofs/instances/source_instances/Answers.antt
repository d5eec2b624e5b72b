use Rattle.std.proofs.Common.{List, sym, subst}
use Rattle.fp_base.proofs.Calculus.{least_along, none_broken}
use Rattle.fp_instances.specs.Numbers.{AreWithin}
use Rattle.fp_instances.specs.Resolved.{AreInstances}
use Rattle.fp_written_parts.specs.declared.instance.WrittenInstance.{WrittenInstance}
use Rattle.fp_source_parts.proofs.Along.{instances_along}
use Rattle.fp_source_parts.proofs.instances.source_instances.Goals as goal

pub returns-in-Some-clause-stop : goal.returns-in-Some-clause-stop
returns-in-Some-clause-stop c =
    least_along c.in-Some.is
    (c.instances_are_least.ensures c.args.source.now c.args.parts.now c.args.written.now c.in_ok-first.first c.requires.deployment
    (instances_along _ _ _ _ _ c.as_slice-components.ensures c.as_slice-instances.ensures c.in_ok-first.ensures))

pub returns-in_ok-built-in-None-clause-instances : goal.returns-in_ok-built-in-None-clause-instances
returns-in_ok-built-in-None-clause-instances c =
    let same = c.as_slice-instances.ensures in
    let least = instances_along _ _ _ _ _ c.as_slice-components.ensures same c.in_ok-first.ensures in
    let within : AreWithin c.args.written.now.instances = c.unbroken_are_within.ensures _ _ (none_broken (least_along c.in-None.is least)) c.requires.numbers.instances in
    subst (λ (ws : List WrittenInstance). AreInstances ws c.in_ok-built-in-None.built) same
    (c.in_ok-built-in-None.ensures (subst (λ (ws : List WrittenInstance). AreWithin ws) (sym same) within))

pub returns-in_ok-built-in-None-clause-unbroken : goal.returns-in_ok-built-in-None-clause-unbroken
returns-in_ok-built-in-None-clause-unbroken c =
    none_broken (least_along c.in-None.is
    (c.instances_are_least.ensures c.args.source.now c.args.parts.now c.args.written.now c.in_ok-first.first c.requires.deployment
    (instances_along _ _ _ _ _ c.as_slice-components.ensures c.as_slice-instances.ensures c.in_ok-first.ensures)))
