use Rattle.std.proofs.Common.{inl}
use Rattle.fp_base.proofs.Calculus.{least_along, none_broken}
use Rattle.fp_source_parts.proofs.Along.{topologies_along}
use Rattle.fp_source_parts.proofs.topologies.source_topologies.Goals as goal

pub returns-in-Some-clause-stop : goal.returns-in-Some-clause-stop
returns-in-Some-clause-stop c =
    least_along c.in-Some.is
    (c.topologies_are_least.ensures c.args.source.now c.args.parts.now c.args.written.now c.args.instances.now c.in_ok-first.first c.requires.deployment c.requires.built
    (topologies_along _ _ _ _ _ _ _ _ c.as_slice-ports.ensures c.as_slice-components.ensures c.as_slice-topologies.ensures c.in_ok-first.ensures))

pub returns-clause-closures : goal.returns-clause-closures
returns-clause-closures c closures closed =
    let least = topologies_along _ _ _ _ _ _ _ _ c.as_slice-ports.ensures c.as_slice-components.ensures c.as_slice-topologies.ensures c.in_ok-first.ensures in
    c.unbroken_imports_are_closed.ensures _ closures closed
    (λ f b. none_broken (least_along c.in-None.is least) f (record { closures = closures; closed = closed; broken = inl b }))

pub returns-clause-unbroken : goal.returns-clause-unbroken
returns-clause-unbroken c =
    none_broken (least_along c.in-None.is
    (c.topologies_are_least.ensures c.args.source.now c.args.parts.now c.args.written.now c.args.instances.now c.in_ok-first.first c.requires.deployment c.requires.built
    (topologies_along _ _ _ _ _ _ _ _ c.as_slice-ports.ensures c.as_slice-components.ensures c.as_slice-topologies.ensures c.in_ok-first.ensures)))
