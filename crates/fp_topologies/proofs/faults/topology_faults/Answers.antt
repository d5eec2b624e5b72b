use Rattle.std.proofs.Common.{sym, subst}
use Rattle.fp_base.specs.Least.{InSome, IsLeast}
use Rattle.fp_base.proofs.Calculus.{least_along, least_either}
use Rattle.fp_topologies.specs.Indexed.{Indexed}
use Rattle.fp_topologies.specs.Broken.{TopologyBroken}
use Rattle.fp_topologies.proofs.JoiningSteps.{least_by_closures}
use Rattle.fp_topologies.proofs.faults.topology_faults.Goals as goal

pub returns : goal.returns
returns c =
    let written = c.args.written.now in
    let closures = c.args.closures.now in
    least_by_closures c.args.ports.now c.args.components.now c.args.instances.now written closures c.one_closures.ensures c.requires.closed c.lesser.result
    (least_along (sym c.lesser.ensures)
    (least_either c.args.first_import c.in_ok-fault.fault c.requires.imports
    (subst (λ (v : Indexed). IsLeast (InSome (TopologyBroken v.ports v.components v.instances written closures) written) c.in_ok-fault.fault) c.in_ok-index.ensures c.in_ok-fault.ensures)))
