-- A source has one list of ports, one of components, and one thing that is written of its instances and topologies.
use Rattle.std.proofs.Common.{◌≡◌, List, map, sym, ap, subst, ◌∙◌}
use Rattle.fp_tree.specs.declared.source.Source.{Source}
use Rattle.fp_tables.specs.declared.component.Component.{Component}
use Rattle.fp_type_sizes.specs.declared.written.WrittenType.{WrittenType}
use Rattle.fp_type_forms.specs.Written.{AreWritten}
use Rattle.fp_type_forms.proofs.OneForm.{one_list}
use Rattle.fp_written_parts.specs.declared.member.WrittenComponent.{WrittenComponent}
use Rattle.fp_written_parts.specs.declared.member.WrittenInterface.{WrittenInterface}
use Rattle.fp_written_parts.specs.declared.port.WrittenPortDef.{WrittenPortDef}
use Rattle.fp_written_parts.specs.declared.topology.WrittenDeployment.{WrittenDeployment}
use Rattle.fp_component_forms.specs.declared.writing.WrittenSource.{WrittenSource}
use Rattle.fp_components.specs.Resolved.{AreComponents, port_def_of}
use Rattle.fp_source_parts.specs.Built.{ArePartsOf}
use Rattle.fp_source_parts.specs.declared.parts.Parts.{Parts}
use Rattle.fp_source_parts.proofs.Once.{one_source}
use Rattle.fp_topology_forms.specs.Written.{IsWrittenDeployment}
use Rattle.fp_source_parts.specs.TopologyBuilt.{IsDeployment}

abbrev pub OneComponents : Type 0
OneComponents = (fs : List WrittenInterface) (ds : List WrittenPortDef) (ws : List WrittenType) (written : List WrittenComponent) (a b : List Component)
    → AreComponents fs ds ws written a → AreComponents fs ds ws written b → a ≡ b

abbrev pub OneDeployment : Type 0
OneDeployment = (source : Source) (v w : WrittenDeployment) → IsWrittenDeployment source v → IsWrittenDeployment source w → v ≡ w

module _ (one_components : OneComponents) (source : Source) where
  parts_made : (a b : Parts) → a.ports ≡ b.ports → a.components ≡ b.components → a ≡ b
  parts_made a b p c i = record { ports = p i; components = c i }

  one_parts : (vs ws : List WrittenType) (a b : Parts) → AreWritten source vs → AreWritten source ws → ArePartsOf source vs a → ArePartsOf source ws b → a ≡ b
  one_parts vs ws a b h k p q =
      let types : ws ≡ vs = one_list source ws vs k h in
      let same : q.written ≡ p.written = one_source source q.written p.written q.are p.are in
      parts_made a b
      (p.ports ∙ ap (λ (w : WrittenSource). map port_def_of w.definitions) (sym same) ∙ sym q.ports)
      (one_components p.written.interfaces p.written.definitions vs p.written.components a.components b.components p.components
      (subst (λ (w : WrittenSource). AreComponents w.interfaces w.definitions vs w.components b.components) same
      (subst (λ (ts : List WrittenType). AreComponents q.written.interfaces q.written.definitions ts q.written.components b.components) types q.components)))

  pub one_parts_of : (a b : Parts) (v w : WrittenDeployment) → IsDeployment source a v → IsDeployment source b w → a ≡ b
  one_parts_of a b v w h k = one_parts h.types k.types a b h.written k.written h.are k.are

pub one_written : OneDeployment → (source : Source) (a b : Parts) (v w : WrittenDeployment) → IsDeployment source a v → IsDeployment source b w → v ≡ w
one_written one source a b v w h k = one source v w h.deployment k.deployment
