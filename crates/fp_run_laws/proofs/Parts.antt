-- The parts of an instance, and what is sound of them.
use Rattle.std.proofs.Common.{◌≡◌, ℕ, Bool, true, [], length, Option, Some, None, option_map, option_and_then, is_some, unwrap_or, refl, slice_get, nat_lt}
use Rattle.std.specs.List.{list_all}
use Rattle.fp_base.proofs.Options.{then_some}
use Rattle.fp_base.proofs.Bools.{both}
use Rattle.fp_tables.specs.Components as components
use Rattle.fp_tables.specs.Lookup.{Described, placed}
use Rattle.fp_tables.specs.Positions.{component_of, component_lies, command_lies, topology_lies}
use Rattle.fp_tables.specs.Sound.{IsSound, IsSoundAt, IsSoundFor}
use Rattle.fp_tables.specs.declared.component.Component.{Component}
use Rattle.fp_tables.specs.declared.topology.Instance.{Instance}
use Rattle.fp_tables.specs.declared.topology.Topology.{Topology}
use Rattle.fp_tables.specs.declared.model.Model.{Model}
use Rattle.fp_tables.specs.Specials.{component, no_parts}
use Rattle.fp_tables.specs.Lists.{is_in}
use Rattle.fp_base.proofs.Lists.{all_get, get_below}
use Rattle.fp_run_laws.proofs.Lists.{all_in}

-- a part of the component that stands for an instance without one is none
pub in_component : {A : Type 0} (o : Option Component) (f : Component → Option A) → f no_parts ≡ None → f (unwrap_or o no_parts) ≡ option_and_then f o
in_component None f e = e
in_component (Some c) f e = refl

module _ (t : Described) where
  pub port_in : (i k : ℕ) → slice_get (component t i).ports k ≡ option_and_then (λ (c : Component). slice_get c.ports k) (component_of t.model i)
  port_in i k = in_component (component_of t.model i) (λ (c : Component). slice_get c.ports k) refl

  pub command_in : (i k : ℕ) → slice_get (component t i).commands k ≡ option_and_then (λ (c : Component). slice_get c.commands k) (component_of t.model i)
  command_in i k = in_component (component_of t.model i) (λ (c : Component). slice_get c.commands k) refl

  pub event_in : (i k : ℕ) → slice_get (component t i).events k ≡ option_and_then (λ (c : Component). slice_get c.events k) (component_of t.model i)
  event_in i k = in_component (component_of t.model i) (λ (c : Component). slice_get c.events k) refl

  pub channel_in : (i k : ℕ) → slice_get (component t i).channels k ≡ option_and_then (λ (c : Component). slice_get c.channels k) (component_of t.model i)
  channel_in i k = in_component (component_of t.model i) (λ (c : Component). slice_get c.channels k) refl

  pub param_in : (i k : ℕ) → slice_get (component t i).params k ≡ option_and_then (λ (c : Component). slice_get c.params k) (component_of t.model i)
  param_in i k = in_component (component_of t.model i) (λ (c : Component). slice_get c.params k) refl

  pub running_in : (i k : ℕ) → slice_get (component t i).machines k ≡ option_and_then (λ (c : Component). slice_get c.machines k) (component_of t.model i)
  running_in i k = in_component (component_of t.model i) (λ (c : Component). slice_get c.machines k) refl

-- what holds of all components holds of that of an instance
pub of_component : (m : Model) (test : Component → Bool) (i : ℕ) (c : Component) → list_all test m.components ≡ true → component_of m i ≡ Some c → test c ≡ true
of_component m test i c h e =
    let x = then_some (λ (x : Instance). slice_get m.components x.component) (slice_get m.instances i) c e in
    all_get test m.components x.0.component c h x.2

module _ (m : Model) (sound : IsSound m) where
  components_lie : list_all (component_lies (length m.types) (length m.ports) (length m.machines)) m.components ≡ true
  components_lie = (both _ _ (both _ _ (both _ _ (both _ _ (both _ _ sound.lists.positions_lie).0).0).0).0).1

  topologies_lie : list_all (topology_lies m) m.topologies ≡ true
  topologies_lie = (both _ _ (both _ _ sound.lists.positions_lie).0).1

  pub component_lies_at : (i : ℕ) (c : Component) → component_of m i ≡ Some c → component_lies (length m.types) (length m.ports) (length m.machines) c ≡ true
  component_lies_at i c e = of_component m (component_lies (length m.types) (length m.ports) (length m.machines)) i c components_lie e

  pub commands_lie_at : (i : ℕ) (c : Component) → component_of m i ≡ Some c → list_all (command_lies (length m.types) (length c.params)) c.commands ≡ true
  commands_lie_at i c e = (both _ _ (both _ _ (both _ _ (both _ _ (both _ _ (both _ _ (component_lies_at i c e)).0).0).0).0).0).1

  pub values_taken_at : (i : ℕ) (c : Component) → component_of m i ≡ Some c → list_all (components.takes_its_value c.params) c.commands ≡ true
  values_taken_at i c e = of_component m (λ c. list_all (components.takes_its_value c.params) c.commands) i c sound.components.commands_take_their_values e

-- an instance of the topology is one of the model
pub member_at : (m : Model) (k : ℕ) → IsSoundFor m (Some k) → (i : ℕ) → is_in i (placed (record { model = m; topology = k })) ≡ true → is_some (slice_get m.instances i) ≡ true
member_at m k sound i h = go (slice_get m.topologies k) refl sound.1 h
  where
    go : (o : Option Topology) → slice_get m.topologies k ≡ o → IsSoundAt m o → is_in i (unwrap_or (option_map (λ (o : Topology). o.instances) o) []) ≡ true → is_some (slice_get m.instances i) ≡ true
    go None is at h = absurd at
    go (Some o) is at h =
        let lies = all_get (topology_lies m) m.topologies k o (topologies_lie m sound.0) is in
        get_below m.instances i (all_in (λ n. nat_lt n (length m.instances)) i o.instances (both _ _ (both _ _ lies).0).0 h)
