-- Slices of what is written are what is written.
use Rattle.std.proofs.Common.{◌≡◌, List, Option, subst}
use Rattle.fp_base.specs.declared.refusal.Refusal.{Refusal}
use Rattle.fp_base.specs.Least.{IsLeast}
use Rattle.fp_tables.specs.declared.component.Component.{Component}
use Rattle.fp_tables.specs.declared.kind.PortDef.{PortDef}
use Rattle.fp_tables.specs.declared.topology.Instance.{Instance}
use Rattle.fp_written_parts.specs.declared.instance.WrittenInstance.{WrittenInstance}
use Rattle.fp_written_parts.specs.declared.topology.WrittenTopology.{WrittenTopology}
use Rattle.fp_instances.specs.Broken.{InstancesBroken}
use Rattle.fp_topologies.specs.Broken.{TopologiesBroken}

pub instances_along : (cs ds : List Component) (ws vs : List WrittenInstance) (o : Option Refusal) → ds ≡ cs → vs ≡ ws → IsLeast (InstancesBroken ds vs) o → IsLeast (InstancesBroken cs ws) o
instances_along cs ds ws vs o p q l =
    subst (λ (x : List WrittenInstance). IsLeast (InstancesBroken cs x) o) q (subst (λ (x : List Component). IsLeast (InstancesBroken x vs) o) p l)

pub topologies_along : (ds es : List PortDef) (cs bs : List Component) (xs : List Instance) (ts us : List WrittenTopology) (o : Option Refusal) → es ≡ ds → bs ≡ cs → us ≡ ts
    → IsLeast (TopologiesBroken es bs xs us) o → IsLeast (TopologiesBroken ds cs xs ts) o
topologies_along ds es cs bs xs ts us o p q r l =
    subst (λ (x : List WrittenTopology). IsLeast (TopologiesBroken ds cs xs x) o) r
    (subst (λ (x : List Component). IsLeast (TopologiesBroken ds x xs us) o) q
    (subst (λ (x : List PortDef). IsLeast (TopologiesBroken x bs xs us) o) p l))
