-- A handler begins at each place that is spelled.
use Rattle.std.proofs.Common.{◌≡◌, ℕ, Bool, true, false, cond, ◌||◌, List, Option, Some, None, is_some, option_map, refl, ap, ◌∙◌, subst}
use Rattle.std.specs.Prelude.{codes, option_and_then, slice_get}
use Rattle.std.specs.Str.{bytes_eq}
use Rattle.fp_base.proofs.Options.{mapped_some, then_some}
use Rattle.fp_base.proofs.Passing.{position_passes}
use Rattle.fp_tables.specs.Acts.{command_of, machine_at}
use Rattle.fp_tables.specs.Arguments.{Scope, formals_bound, nothing_bound}
use Rattle.fp_tables.specs.Lists.{some_and}
use Rattle.fp_tables.specs.Lookup.{Described}
use Rattle.fp_tables.specs.Positions.{component_of, port_of}
use Rattle.fp_tables.specs.Programs.{bound_at, command_bound, command_way, hook_bound, is_general_input, is_hooked, is_internal, port_bound, port_way, signal_way, value_bound, way_in, way_written}
use Rattle.fp_tables.specs.declared.component.Command.{Command}
use Rattle.fp_tables.specs.declared.component.Component.{Component}
use Rattle.fp_tables.specs.declared.component.Port.{Port}
use Rattle.fp_tables.specs.declared.component.Role.{Role}
use Rattle.fp_tables.specs.declared.component.Role.TheVariants as role
use Rattle.fp_tables.specs.declared.component.Running.{Running}
use Rattle.fp_tables.specs.declared.component.Way.{Way}
use Rattle.fp_tables.specs.declared.machine.Machine.{Machine}
use Rattle.fp_tables.specs.declared.machine.Named.{Named}
use Rattle.fp_tables.specs.declared.program.Spot.{Spot}
use Rattle.fp_tables.specs.declared.program.Spot.TheVariants as spot
use Rattle.fp_tables.proofs.Optional.{some_and_of}
use Rattle.fp_scenario_actions.specs.Acting.{machine_in}
use Rattle.fp_scenario_actions.specs.Named.{command_named, name_of, port_where, running_named}
use Rattle.fp_scenario_actions.specs.Spots.{action_at, action_spot, behind, command_spot, hook_command_spot, hook_port_spot, hook_signal_spot, parted, port_spot, spot_in}
use Rattle.fp_scenario_actions.proofs.Wired.{where_is}
use Rattle.fp_scenario_check.proofs.Spelled.{form_is, kept_spot}

-- what is hooked arrives at a general input or an internal port
waits : (r : Role) → some_and is_hooked (way_in r) ≡ true → (is_general_input r || is_internal r) ≡ true
waits (role.Input way) h = refl
waits (role.Internal way) h = refl
waits role.Output h = absurd (cc)
waits (role.Special s) h = absurd (cc)

hooked_so : (make : ℕ → Spot) (n : ℕ) (s : Spot) (b : Bool) → cond b (Some (make n)) None ≡ Some s → b ≡ true
hooked_so make n s true e = refl
hooked_so make n s false e = absurd (cc)

-- under `hook` it begins as what it is for does
both_begin : (t : Described) (way : Option Way) (scope : Option Scope) → some_and is_hooked way ≡ true → is_some scope ≡ true → is_some (hook_bound t way scope) ≡ true
both_begin t way scope h k = ap (λ b. is_some (cond b scope None)) h ∙ k

module _ (t : Described) (i : ℕ) (c : Component) (there : component_of t.model i ≡ Some c) where
  abbrev Begins : Spot → Type 0
  Begins s = is_some (bound_at t i s) ≡ true

  port_is : (n : ℕ) → port_of t.model i n ≡ slice_get c.ports n
  port_is n = ap (option_and_then (λ (d : Component). slice_get d.ports n)) there

  command_is : (n : ℕ) → command_of t i n ≡ slice_get c.commands n
  command_is n = ap (option_and_then (λ (d : Component). slice_get d.commands n)) there

  running_is : (r : ℕ) → option_and_then (λ (d : Component). slice_get d.machines r) (component_of t.model i) ≡ slice_get c.machines r
  running_is r = ap (option_and_then (λ (d : Component). slice_get d.machines r)) there

  machine_is : (r : ℕ) → machine_at t i r ≡ machine_in t c r
  machine_is r = ap (λ o. option_and_then (slice_get t.model.machines) (option_map (λ (x : Running). x.machine) o)) (running_is r) ∙ go (slice_get c.machines r)
    where
      go : (o : Option Running) → option_and_then (slice_get t.model.machines) (option_map (λ (x : Running). x.machine) o) ≡ option_and_then (λ (x : Running). slice_get t.model.machines x.machine) o
      go None = refl
      go (Some x) = refl

  port_begins : (n : ℕ) (x : Port) → slice_get c.ports n ≡ Some x → (is_general_input x.role || is_internal x.role) ≡ true → is_some (port_bound t i n) ≡ true
  port_begins n x at waits =
      ap (λ o. is_some (option_and_then (λ (p : Port). cond (is_general_input p.role || is_internal p.role) (Some (formals_bound p.formals)) None) o)) (port_is n ∙ at)
      ∙ ap (λ b. is_some (cond b (Some (formals_bound x.formals)) None)) waits

  command_begins : (n : ℕ) (x : Command) → slice_get c.commands n ≡ Some x → is_some (command_bound t i n) ≡ true
  command_begins n x at = ap (λ o. is_some (option_map (λ (y : Command). formals_bound y.formals) o)) (command_is n ∙ at)

  at_port : (name : List ℕ) (s : Spot) → port_spot t c name ≡ Some s → Begins s
  at_port name s h =
      let n = mapped_some (λ m. spot.Port m) (port_where (λ (x : Port). is_general_input x.role || is_internal x.role) c.ports name) s h in
      let x = where_is (λ (x : Port). is_general_input x.role || is_internal x.role) c.ports name n.0 n.1 in
      subst Begins n.2 (port_begins n.0 x.0 x.1 x.2)

  at_command : (name : List ℕ) (s : Spot) → command_spot t c name ≡ Some s → Begins s
  at_command name s h =
      let n = mapped_some (λ m. spot.Command m) (command_named c.commands name) s h in
      let x = position_passes (λ (y : Command). bytes_eq y.name name) c.commands n.0 n.1 in
      subst Begins n.2 (command_begins n.0 x.0 x.1)

  at_action : (name : List ℕ) (s : Spot) → action_spot t c name ≡ Some s → Begins s
  at_action name s h =
      let p = then_some (λ (p : List ℕ × List ℕ). option_and_then (action_at t c p.1) (running_named c.machines p.0)) (parted 46 name) s h in
      let r = then_some (action_at t c p.0.1) (running_named c.machines p.0.0) s p.2 in
      let m = then_some (λ (m : Machine). option_map (λ k. spot.Action r.0 k) (name_of m.actions p.0.1)) (machine_in t c r.0) s r.2 in
      let a = mapped_some (λ k. spot.Action r.0 k) (name_of m.0.actions p.0.1) s m.2 in
      let x = position_passes (λ (y : Named). bytes_eq y.name p.0.1) m.0.actions a.0 a.1 in
      subst Begins a.2
      (ap (λ o. is_some (option_map (λ (y : Named). value_bound y.kind) (option_and_then (λ (d : Machine). slice_get d.actions a.0) o))) (machine_is r.0 ∙ m.1)
      ∙ ap (λ o. is_some (option_map (λ (y : Named). value_bound y.kind) o)) x.1)

  at_hook_port : (name : List ℕ) (s : Spot) → hook_port_spot t c name ≡ Some s → Begins s
  at_hook_port name s h =
      let n = mapped_some (λ m. spot.HookPort m) (port_where (λ (x : Port). some_and is_hooked (way_in x.role)) c.ports name) s h in
      let x = where_is (λ (x : Port). some_and is_hooked (way_in x.role)) c.ports name n.0 n.1 in
      subst Begins n.2
      (both_begin t (port_way t i n.0) (port_bound t i n.0) (ap (λ o. some_and is_hooked (option_and_then (λ (p : Port). way_in p.role) o)) (port_is n.0 ∙ x.1) ∙ x.2)
      (port_begins n.0 x.0 x.1 (waits x.0.role x.2)))

  at_hook_command : (name : List ℕ) (s : Spot) → hook_command_spot t c name ≡ Some s → Begins s
  at_hook_command name s h =
      let n = then_some (λ n. cond (some_and (λ (x : Command). some_and is_hooked (way_written x.way x.part)) (slice_get c.commands n)) (Some (spot.HookCommand n)) None) (command_named c.commands name) s h in
      let hooked = hooked_so (λ m. spot.HookCommand m) n.0 s (some_and (λ (x : Command). some_and is_hooked (way_written x.way x.part)) (slice_get c.commands n.0)) n.2 in
      let x = some_and_of (λ (x : Command). some_and is_hooked (way_written x.way x.part)) (slice_get c.commands n.0) hooked in
      subst Begins (kept_spot t c (λ m. spot.HookCommand m) n.0 s (some_and (λ (x : Command). some_and is_hooked (way_written x.way x.part)) (slice_get c.commands n.0)) n.2)
      (both_begin t (command_way t i n.0) (command_bound t i n.0) (ap (λ o. some_and is_hooked (option_and_then (λ (y : Command). way_written y.way y.part) o)) (command_is n.0 ∙ x.1) ∙ x.2)
      (command_begins n.0 x.0 x.1))

  at_hook_signal : (name : List ℕ) (s : Spot) → hook_signal_spot t c name ≡ Some s → Begins s
  at_hook_signal name s h =
      let n = then_some (λ n. cond (some_and (λ (x : Running). is_hooked x.way) (slice_get c.machines n)) (Some (spot.HookSignal n)) None) (running_named c.machines name) s h in
      let hooked = hooked_so (λ m. spot.HookSignal m) n.0 s (some_and (λ (x : Running). is_hooked x.way) (slice_get c.machines n.0)) n.2 in
      let x = some_and_of (λ (x : Running). is_hooked x.way) (slice_get c.machines n.0) hooked in
      subst Begins (kept_spot t c (λ m. spot.HookSignal m) n.0 s (some_and (λ (x : Running). is_hooked x.way) (slice_get c.machines n.0)) n.2)
      (both_begin t (signal_way t i n.0) (Some nothing_bound) (ap (λ o. some_and is_hooked (option_map (λ (y : Running). y.way) o)) (running_is n.0 ∙ x.1) ∙ x.2) refl)

  pub spot_begins : (on : List ℕ) (s : Spot) → spot_in t c on ≡ Some s → Begins s
  spot_begins on s =
      form_is (behind (codes "port ") on) (port_spot t c) _ s (Begins s) (λ rest is means. at_port rest s means)
      (form_is (behind (codes "command ") on) (command_spot t c) _ s (Begins s) (λ rest is means. at_command rest s means)
      (form_is (behind (codes "action ") on) (action_spot t c) _ s (Begins s) (λ rest is means. at_action rest s means)
      (form_is (behind (codes "hook port ") on) (hook_port_spot t c) _ s (Begins s) (λ rest is means. at_hook_port rest s means)
      (form_is (behind (codes "hook command ") on) (hook_command_spot t c) _ s (Begins s) (λ rest is means. at_hook_command rest s means)
      (form_is (behind (codes "hook signal ") on) (hook_signal_spot t c) None s (Begins s) (λ rest is means. at_hook_signal rest s means)
      (λ e. absurd (nothing s e)))))))
    where
      nothing : (q : Spot) → ◌≡◌ {A = Option Spot} None (Some q) → ⊥
      nothing q e = cc
