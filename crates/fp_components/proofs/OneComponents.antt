-- What is written of components comes to one list of them.
use Rattle.std.proofs.Common.{◌≡◌, ℕ, List, flat_map, refl, sym, subst, ◌∙◌}
use Rattle.fp_base.specs.declared.value.Value.{Value}
use Rattle.fp_tables.specs.declared.component.Component.{Component}
use Rattle.fp_tables.specs.declared.kind.Kind.{Kind}
use Rattle.fp_type_sizes.specs.declared.written.WrittenType.{WrittenType}
use Rattle.fp_types.specs.Converting.{Converts, DefaultIs}
use Rattle.fp_written_parts.specs.declared.member.WrittenComponent.{WrittenComponent}
use Rattle.fp_written_parts.specs.declared.member.WrittenInterface.{WrittenInterface}
use Rattle.fp_written_parts.specs.declared.port.WrittenPort.{WrittenPort}
use Rattle.fp_written_parts.specs.declared.port.WrittenPortDef.{WrittenPortDef}
use Rattle.fp_dictdefs.specs.Listed.{commands_in, events_in, channels_in, params_in}
use Rattle.fp_component_rules.proofs.Listed.{one_list}
use Rattle.fp_components.specs.Resolved.{AreComponents, AreEach, IsChannel, IsCommand, IsComponent, IsEvent, IsMatch, IsParam, IsRunning, PortIs, channel_in, commands_from, event_in, match_in, param_in, running_in}
use Rattle.fp_components.proofs.Dictionary.{channel_same, command_same, event_same, match_same, param_same, running_same}
use Rattle.fp_components.proofs.Lists.{each_same}
use Rattle.fp_components.proofs.OnePorts.{port_same}

module _ (fs : List WrittenInterface) (ds : List WrittenPortDef) (ws : List WrittenType) (one_default : (k : Kind) (a b : Value) → DefaultIs ws k a → DefaultIs ws k b → a ≡ b)
    (one_result : (v : Value) (k : Kind) (a b : Value) → Converts ws v k a → Converts ws v k b → a ≡ b) where
  component_same : (w : WrittenComponent) (x y : Component) → IsComponent fs ds ws w x → IsComponent fs ds ws w y → x ≡ y
  component_same w x y h j =
      made (h.name ∙ sym j.name) (h.queueing ∙ sym j.queueing)
      (each_same (λ (k : ℕ). PortIs ds) h.all x.ports y.ports (λ k p a b at. port_same ds p a b) h.ports (subst (λ (all : List WrittenPort). AreEach (λ (k : ℕ). PortIs ds) all y.ports) (sym alike) j.ports))
      (each_same (IsCommand (flat_map commands_in w.members)) (commands_from 0 w.members) x.commands y.commands (λ k c a b at. command_same (flat_map commands_in w.members) k c a b) h.commands j.commands)
      (each_same (IsEvent (flat_map events_in w.members)) (flat_map event_in w.members) x.events y.events (λ k e a b at. event_same (flat_map events_in w.members) k e a b) h.events j.events)
      (each_same (IsChannel (flat_map channels_in w.members)) (flat_map channel_in w.members) x.channels y.channels (λ k t a b at. channel_same (flat_map channels_in w.members) k t a b) h.channels j.channels)
      (each_same (IsParam ws (flat_map params_in w.members)) (flat_map param_in w.members) x.params y.params (λ k p a b at. param_same (flat_map params_in w.members) ws one_default one_result k p a b) h.params j.params)
      (each_same (λ (k : ℕ). IsMatch h.all) (flat_map match_in w.members) x.matches y.matches (λ k m a b at. match_same h.all m a b) h.matches
      (subst (λ (all : List WrittenPort). AreEach (λ (k : ℕ). IsMatch all) (flat_map match_in w.members) y.matches) (sym alike) j.matches))
      (each_same (λ (k : ℕ). IsRunning) (flat_map running_in w.members) x.machines y.machines (λ k r a b at. running_same r a b) h.machines j.machines)
    where
      alike : h.all ≡ j.all
      alike = one_list fs refl h.given j.given

      made : x.name ≡ y.name → x.queueing ≡ y.queueing → x.ports ≡ y.ports → x.commands ≡ y.commands → x.events ≡ y.events → x.channels ≡ y.channels → x.params ≡ y.params
          → x.matches ≡ y.matches → x.machines ≡ y.machines → x ≡ y
      made a b c d e f g m n i = record { name = a i; queueing = b i; ports = c i; commands = d i; events = e i; channels = f i; params = g i; matches = m i; machines = n i }

  pub components_same : (written : List WrittenComponent) (a b : List Component) → AreComponents fs ds ws written a → AreComponents fs ds ws written b → a ≡ b
  components_same written a b h j = each_same (λ (k : ℕ). IsComponent fs ds ws) written a b (λ k w x y at. component_same w x y) h j
