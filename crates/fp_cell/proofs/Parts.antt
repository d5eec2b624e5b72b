-- What a sound model says of the component of an instance.
use Rattle.std.proofs.Common.{◌≡◌, ℕ, true, ◌&&◌, nat_lt, length, List, [], ◌∷◌, map, Option, Some, None, unwrap_or, refl, slice_get}
use Rattle.std.specs.List.{list_all}
use Rattle.fp_base.proofs.Options.{then_some}
use Rattle.fp_base.proofs.Bools.{both}
use Rattle.fp_tables.specs.Components as components
use Rattle.fp_tables.specs.Lookup.{Described}
use Rattle.fp_tables.specs.Positions.{component_of, formals_lie, part_lies, command_lies, component_lies, port_lies, event_lies, channel_lies, kind_lies, machine_lies, topology_lies, item_lies}
use Rattle.fp_tables.specs.declared.component.Running.{Running}
use Rattle.fp_tables.specs.Sound.{IsSound}
use Rattle.fp_tables.specs.Types.{has_kind, have_kinds}
use Rattle.fp_tables.specs.declared.component.Channel.{Channel}
use Rattle.fp_tables.specs.declared.component.Command.{Command}
use Rattle.fp_tables.specs.declared.component.Component.{Component}
use Rattle.fp_tables.specs.declared.component.Limit.{Limit}
use Rattle.fp_tables.specs.declared.component.Param.{Param}
use Rattle.fp_tables.specs.declared.kind.TypeDef.{TypeDef}
use Rattle.fp_tables.specs.declared.model.Model.{Model}
use Rattle.fp_tables.specs.declared.topology.Instance.{Instance}
use Rattle.fp_base.proofs.Lists.{all_get}
use Rattle.fp_tables.specs.Specials.{component, no_parts}

-- what the steps of an instance take from soundness
pub record HasGoodParts (types : List TypeDef) (c : Component) : Type 0 where
  pub commands : list_all (components.takes_its_value c.params) c.commands ≡ true
  pub defaults : list_all (λ (p : Param). has_kind types p.kind p.default) c.params ≡ true
  pub formats : list_all (components.agrees_with_formals types) c.events ≡ true
  pub of_params : list_all (λ (x : Command). part_lies (length c.params) x.part) c.commands ≡ true

nothing : (types : List TypeDef) → HasGoodParts types no_parts
nothing types = record { commands = refl; defaults = refl; formats = refl; of_params = refl }

-- the positions of a component lie in their lists
commands_lie : (m : Model) (c : Component) (k : ℕ) → IsSound m → slice_get m.components k ≡ Some c → list_all (command_lies (length m.types) (length c.params)) c.commands ≡ true
commands_lie m c k sound found =
    let order = both _ (list_all (item_lies m) m.order) sound.lists.positions_lie in
    let topologies = both _ (list_all (topology_lies m) m.topologies) order.0 in
    let instances = both _ (list_all (λ (x : Instance). nat_lt x.component (length m.components)) m.instances) topologies.0 in
    let machines = both _ (list_all (machine_lies (length m.types)) m.machines) instances.0 in
    let components = both _ (list_all (component_lies (length m.types) (length m.ports) (length m.machines)) m.components) machines.0 in
    let whole = all_get (component_lies (length m.types) (length m.ports) (length m.machines)) m.components k c components.1 found in
    let running = both _ (list_all (λ (r : Running). nat_lt r.machine (length m.machines)) c.machines) whole in
    let matches = both _ (list_all (λ (p : ℕ × ℕ). nat_lt p.0 (length c.ports) && nat_lt p.1 (length c.ports)) c.matches) running.0 in
    let params = both _ (list_all (λ (p : Param). kind_lies (length m.types) p.kind) c.params) matches.0 in
    let channels = both _ (list_all (channel_lies (length m.types)) c.channels) params.0 in
    let events = both _ (list_all (event_lies (length m.types)) c.events) channels.0 in
    (both (list_all (port_lies (length m.types) (length m.ports)) c.ports) (list_all (command_lies (length m.types) (length c.params)) c.commands) events.0).1

parts_lie : (types params : ℕ) (cs : List Command) → list_all (command_lies types params) cs ≡ true → list_all (λ (x : Command). part_lies params x.part) cs ≡ true
parts_lie types params [] h = refl
parts_lie types params (x ∷ xs) h =
    let b = both (command_lies types params x) (list_all (command_lies types params) xs) h in
    rw (both (formals_lie types x.formals) (part_lies params x.part) b.0).1 (parts_lie types params xs b.1)

some_component : (m : Model) (c : Component) (k : ℕ) → IsSound m → slice_get m.components k ≡ Some c → HasGoodParts m.types c
some_component m c k sound found =
    record {
      commands = all_get (λ (c : Component). list_all (components.takes_its_value c.params) c.commands) m.components k c sound.components.commands_take_their_values found;
      defaults =
          (both (list_all (λ (x : Channel). list_all (λ (l : Limit). has_kind m.types x.kind l.value) x.limits) c.channels)
          (list_all (λ (p : Param). has_kind m.types p.kind p.default) c.params)
          (all_get (components.component_has_values m.types) m.components k c sound.types.parts_have_their_values found)).1;
      formats = all_get (λ (c : Component). list_all (components.agrees_with_formals m.types) c.events) m.components k c sound.components.fields_agree_with_formals found;
      of_params = parts_lie (length m.types) (length c.params) c.commands (commands_lie m c k sound found);
    }

found_component : (m : Model) (o : Option Component) → IsSound m → ((c : Component) → o ≡ Some c → (k : ℕ) × (slice_get m.components k ≡ Some c)) → HasGoodParts m.types (unwrap_or o no_parts)
found_component m None sound at = nothing m.types
found_component m (Some c) sound at = some_component m c (at c refl).0 sound (at c refl).1

pub good_parts : (t : Described) (i : ℕ) → IsSound t.model → HasGoodParts t.model.types (component t i)
good_parts t i sound = found_component t.model (component_of t.model i) sound at
  where
    at : (c : Component) → component_of t.model i ≡ Some c → (k : ℕ) × (slice_get t.model.components k ≡ Some c)
    at c h =
        let x = then_some (λ (x : Instance). slice_get t.model.components x.component) (slice_get t.model.instances i) c h in
        (x.0.component, x.2)

pub defaults_have_kinds : (types : List TypeDef) (params : List Param) → list_all (λ (p : Param). has_kind types p.kind p.default) params ≡ true
    → have_kinds types (map (λ (p : Param). p.kind) params) (map (λ (p : Param). p.default) params) ≡ true
defaults_have_kinds types [] h = refl
defaults_have_kinds types (p ∷ ps) h =
    let b = both (has_kind types p.kind p.default) (list_all (λ (p : Param). has_kind types p.kind p.default) ps) h in
    rw (b.0) (defaults_have_kinds types ps b.1)
